-- Wrong calls are refuted: one that goes on after a failure, one whose bytes land in the wrong place.
-- Assumes nothing.
use Rattle.std.specs.Prelude.{None}
use Prim.Native.Nat.{ℕ}
use native.Mathlib.Omega.{arith}
use mathlib.Core.Path.{refl, sym, ap}
use mathlib.Core.Bool.{false, false≢true}
use mathlib.Core.List.{[], ◌∷◌}
use lib.ListN.{get_or}
use Rattle.bus.specs.Operations.{read, kept}
use Rattle.chunks.specs.Pieces.{piece_of, pieces_by, pieces}
use Rattle.outcome.specs.declared.Snapshot.{Snapshot}
use Rattle.outcome.specs.Packed.{unpacked}
use Rattle.outcome.specs.Outcomes.{errors_of, poll_of, slots_of, commands_of, classify_of}
use Rattle.script.specs.Records.{operations_from}
use Rattle.script.specs.Scripts.{read_total, body_of, script_of}
use Rattle.turns.specs.Steps.{write_steps, read_steps, steps_from}
use Rattle.turns.specs.Turns.{with_list, turns_of, turn_at}
use Rattle.transaction.specs.declared.Settings.{Settings}
use Rattle.transaction.specs.declared.Deadline.TheVariants.{None}
use Rattle.transaction.specs.Calls.{accepted, awaiting, begin_of, next_of, complete_of, abandon_of}
use Rattle.demands.proofs.LawsRefused.{abandoned}
use Rattle.demands.specs.Transactions.{nexts, Round, Course, course, gathered, none_listed, FailedEnds, HandsOutPlan, goes_on_after_failure, lands_in_front}

abbrev unlimited : Settings
unlimited = record { deadline = None }

-- complete, and answered
abbrev good : Snapshot
good = unpacked 96 [] 0

-- a lone empty write has one list; the transaction is abandoned while it is outstanding
pub goes_on_refuted : FailedEnds goes_on_after_failure → ⊥
unfolding none_listed errors_of poll_of kept piece_of pieces_by pieces operations_from read_total body_of script_of write_steps steps_from with_list turns_of turn_at next_of abandon_of
goes_on_refuted h =
    let ended = h.by_abandon (awaiting (accepted None) None) good (nexts unlimited 0 (1 ∷ 0 ∷ 3 ∷ 0 ∷ 0 ∷ 0 ∷ []) 0 ∷ []) (λ e. absurd (false≢true (sym (ap abandoned e)))) in
    absurd (false≢true (sym ended.0))

abbrev sends : ℕ → Round
sends b = record { time = 0; snapshot = good; received = b ∷ [] }

-- two reads of one byte each
pub lands_in_front_refuted : HandsOutPlan lands_in_front → ⊥
unfolding course gathered kept piece_of pieces_by pieces errors_of poll_of slots_of commands_of classify_of operations_from read_total body_of script_of read_steps steps_from with_list turns_of turn_at begin_of next_of complete_of
lands_in_front_refuted h =
    let same = h (accepted None) unlimited 0 (1 ∷ 0 ∷ 6 ∷ 0 ∷ 1 ∷ 1 ∷ 0 ∷ 1 ∷ 1 ∷ []) (0 ∷ 0 ∷ []) false 0 (read 1 ∷ read 1 ∷ []) (sends 7 ∷ sends 8 ∷ []) refl refl (refl, omega arith, (refl, omega arith, tt)) in
    absurd (omega (arith, ap (λ (c : Course). get_or c.buffer 0 0) same))
