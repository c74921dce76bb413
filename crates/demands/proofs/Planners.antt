-- Our planner meets what is asked of a planner; each wrong one is refuted.
-- Assumes nothing.
use Rattle.std.specs.Prelude.{Some}
use Prim.Native.Nat.{ℕ}
use native.Mathlib.Omega.{arith}
use mathlib.Core.Path.{◌≡◌, refl, ap, ◌∙◌}
use mathlib.Core.List.{List, [], ◌∷◌}
use lib.ListN.{length, drop}
use Rattle.bus.specs.Events.{Event, start_bit, stop_bit, sent, got}
use Rattle.bus.specs.Operations.{write, read, kept, join, runs}
use Rattle.bus.specs.Traffic.{opening, written, next_byte, received, transferred, on_bus, traffic, cut}
use Rattle.chunks.specs.Pieces.{piece_of, pieces_by, pieces}
use Rattle.command.specs.Word.{meaning_of, within}
use Rattle.list.specs.Lists.{sent_bytes, write_fifo, write_commands, read_fifo, read_commands, padded, listed, unlisted, write_of, read_of, write_step_of, read_step_of}
use Rattle.controller.specs.declared.Phase.TheVariants.{Idle}
use Rattle.controller.specs.Rules.{effect_of}
use Rattle.controller.specs.Model.{put, get, obey, run_from, run_list, run_lists, events_of}
use Rattle.controller.specs.Verdicts.{willing, verdict_of}
use Rattle.turns.specs.Steps.{write_steps, read_steps, steps_from}
use Rattle.turns.specs.Plan.{lists_of, planned}
use Rattle.demands.specs.Plans.{meets, planned_run}
use Rattle.demands.specs.Planners.{PutsTraffic, PassesInTurn, our_planner, plans_nothing, empty_list, fixed_list, bare_stops, without_empty_writes, drops_empty_writes, nacks_every_piece, compares_first}
use Rattle.demands.proofs.LawsTurns.{in_turn_runs}
use Rattle.demands.proofs.Planned.{plan_run, plan_traffic}

pub ours_puts_traffic : PutsTraffic our_planner
unfolding planned_run
ours_puts_traffic address os k known = plan_traffic 32 31 (omega arith) (omega arith) (omega arith) address known os k

passes_over : (es : List Event) (sends : List ℕ) → verdict_of (meets es sends 0) ≡ Some Idle
unfolding meets
passes_over [] sends = refl
passes_over (start_bit ∷ es) sends = passes_over es sends
passes_over (stop_bit ∷ es) sends = passes_over es sends
passes_over (sent b a ∷ es) sends = passes_over es sends
passes_over (got b a ∷ es) sends = passes_over es (drop 1 sends)

pub planned_pass : PassesInTurn our_planner
unfolding planned_run
planned_pass address os known =
    in_turn_runs 32 (our_planner address os) Idle
    ∙ ap verdict_of (plan_run 32 31 (omega arith) (omega arith) (omega arith) address known os willing)
    ∙ passes_over (traffic address [] (kept os)) []

-- an empty write is traffic: START, the address, STOP
pub refuses_all_planner_refuted : PutsTraffic plans_nothing → ⊥
unfolding run_lists events_of kept join runs opening written transferred on_bus traffic cut
refuses_all_planner_refuted h =
    let same : ◌≡◌ {A = ℕ} 0 3 = ap length (h 0 (write [] ∷ []) willing (omega arith)) in
    absurd (omega arith)

pub empty_list_refuted : PutsTraffic empty_list → ⊥
unfolding meaning_of within run_from run_list run_lists events_of kept join runs opening written transferred on_bus traffic cut
empty_list_refuted h =
    let same : ◌≡◌ {A = ℕ} 0 3 = ap length (h 0 (write [] ∷ []) willing (omega arith)) in
    absurd (omega arith)

-- nothing kept is no traffic
pub fixed_list_refuted : PutsTraffic fixed_list → ⊥
unfolding meaning_of within effect_of put obey run_from run_list run_lists events_of kept runs on_bus traffic cut
fixed_list_refuted h =
    let same : ◌≡◌ {A = ℕ} 3 0 = ap length (h 0 [] willing (omega arith)) in
    absurd (omega arith)

-- a write, then a read of one byte: START and the address twice, the byte, STOP
pub bare_stops_refuted : PutsTraffic bare_stops → ⊥
unfolding piece_of pieces_by pieces sent_bytes write_fifo write_commands read_fifo read_commands padded listed unlisted write_of read_of write_step_of read_step_of write_steps read_steps steps_from lists_of planned meaning_of within effect_of put get obey run_from run_list run_lists events_of kept join runs opening written received next_byte transferred on_bus traffic cut
bare_stops_refuted h =
    let same : ◌≡◌ {A = ℕ} 3 6 = ap length (h 0 (write [] ∷ read 1 ∷ []) willing (omega arith)) in
    absurd (omega arith)

-- a lone empty write: START, the address, STOP
pub dropped_writes_refuted : PutsTraffic drops_empty_writes → ⊥
unfolding without_empty_writes steps_from lists_of planned run_lists events_of kept join runs opening written transferred on_bus traffic cut
dropped_writes_refuted h =
    let same : ◌≡◌ {A = ℕ} 0 3 = ap length (h 0 (write [] ∷ []) willing (omega arith)) in
    absurd (omega arith)

-- a read of 32 goes in pieces of 29 and 3: after a NACK there is no more to read
pub nacked_pieces_refuted : PutsTraffic nacks_every_piece → ⊥
unfolding piece_of pieces_by pieces sent_bytes read_fifo read_commands padded listed unlisted read_of read_step_of read_steps steps_from lists_of planned meaning_of within effect_of put get obey run_from run_list run_lists events_of kept join runs opening written received next_byte transferred on_bus traffic cut
nacked_pieces_refuted h =
    let same : ◌≡◌ {A = ℕ} 31 35 = ap length (h 0 (read 32 ∷ []) willing (omega arith)) in
    absurd (omega arith)

-- two writes with an empty read between them are one run: START, the address, STOP
pub compared_first_refuted : PutsTraffic compares_first → ⊥
unfolding piece_of pieces_by pieces sent_bytes write_fifo write_commands read_fifo read_commands padded listed unlisted write_of read_of write_step_of read_step_of write_steps read_steps steps_from lists_of planned meaning_of within effect_of put get obey run_from run_list run_lists events_of kept join runs opening written received next_byte transferred on_bus traffic cut
compared_first_refuted h =
    let same : ◌≡◌ {A = ℕ} 5 3 = ap length (h 0 (write [] ∷ read 0 ∷ write [] ∷ []) willing (omega arith)) in
    absurd (omega arith)
