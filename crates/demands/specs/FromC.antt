-- A TRANSACTION FROM C, after the contracts of its calls (sitankulo/src/transactions.rt): what each answers, and what it leaves in the memory
-- from which the next one takes the record.
use Rattle.std.specs.Prelude.{ℕ, ◌≡◌, true, cond, List, [], ◌∷◌, ◌++◌, map, length, drop}
use Rattle.bus.specs.Operations.{Operation}
use Rattle.list.specs.declared.CommandList.{CommandList}
use Rattle.script.specs.Scripts.{asks, read_total, script_of}
use Rattle.turns.specs.Plan.{planned}
use Rattle.turns.specs.Turns.{turns_of}
use Rattle.transaction.specs.declared.Begun.{Begun}
use Rattle.transaction.specs.declared.Handed.{Handed}
use Rattle.transaction.specs.declared.Completed.{Completed}
use Rattle.sitankulo.specs.Transactions.{number_in, succeeds, goes_ahead, tells, renewed, settings_of, snapshot_of, begun_for, begin_answer, handed_for, next_answer, completed_for, landed_for, complete_answer}
use Rattle.demands.specs.Transactions.{Round, Succeed, gathered}

-- what is handed in for one list: the clock when it is asked for; then the status bits, the command words as they read, the clock and the
-- received bytes with which it is completed
pub record Handful : Type 0 where
  pub asked : ℕ
  pub bits : ℕ
  pub commands : List ℕ
  pub time : ℕ
  pub received : List ℕ

abbrev pub round_of : Handful → Round
round_of r = record { time = r.asked; snapshot = snapshot_of r.bits r.commands r.time; received = r.received }

-- "the eight command words as they read now, 32 bytes"
abbrev pub Whole : List Handful → Type 0
Whole [] = Unit {0}
Whole (r ∷ rs) = (length r.commands ≡ 32) × Whole rs

-- what comes of it: the lists, the last call's answer, and the read buffer
pub record FromC : Type 0 where
  pub lists : List CommandList
  pub last : ℕ
  pub buffer : List ℕ

abbrev pub with : CommandList → FromC → FromC
with l c = record { lists = l ∷ c.lists; last = c.last; buffer = c.buffer }

abbrev pub stopping : ℕ → List ℕ → FromC
stopping answer buffer = record { lists = []; last = answer; buffer = buffer }

module _ (kind duration address : ℕ) (script : List ℕ) where
  -- `sitankulo_next`, with room for any list: the list, the answer, and the record's memory
  abbrev pub handed : List ℕ → ℕ → Handed
  handed state time = handed_for state kind duration address script time

  abbrev pub next_told : List ℕ → ℕ → ℕ
  next_told state time = next_answer kind state (script_of address script) (handed state time) 32 32

  abbrev pub awaiting : List ℕ → ℕ → List ℕ
  awaiting state time = cond (succeeds (next_told state time)) (renewed state (handed state time).progress) state

  -- `sitankulo_complete`: the answer, the record's memory, and the read buffer
  abbrev pub completed : List ℕ → List ℕ → Handful → Completed
  completed state buffer r = completed_for state address script r.bits r.commands r.time r.received buffer

  abbrev pub complete_told : List ℕ → List ℕ → Handful → ℕ
  complete_told state buffer r = complete_answer state r.commands (script_of address script) (completed state buffer r)

  abbrev pub left : List ℕ → List ℕ → Handful → List ℕ
  left state buffer r = cond (tells (number_in (complete_told state buffer r))) (renewed state (completed state buffer r).progress) state

  abbrev pub landed : List ℕ → List ℕ → Handful → List ℕ
  landed state buffer r =
      cond (succeeds (complete_told state buffer r)) (landed_for state address script r.bits r.commands r.time r.received buffer) buffer

  -- a list at a time, each completed before the next is asked for; where a call does not succeed, that is the end
  unfoldable pub course_from_c : List ℕ → List ℕ → List Handful → FromC
  course_from_c state buffer [] = stopping (next_told state 0) buffer
  course_from_c state buffer (r ∷ rs) =
      cond (succeeds (next_told state r.asked))
      (with (handed state r.asked).list
      (cond (succeeds (complete_told (awaiting state r.asked) buffer r))
      (course_from_c (left (awaiting state r.asked) buffer r) (landed (awaiting state r.asked) buffer r) rs)
      (stopping (complete_told (awaiting state r.asked) buffer r) (landed (awaiting state r.asked) buffer r))))
      (stopping (next_told state r.asked) buffer)

  -- `sitankulo_begin`
  abbrev pub begun : List ℕ → ℕ → ℕ → Begun
  begun buffer busy time = begun_for kind duration address script (length buffer) busy time

  abbrev pub begin_told : List ℕ → List ℕ → ℕ → ℕ → ℕ
  begin_told state buffer busy time = begin_answer kind (length state) (begun buffer busy time)

  -- where begin goes ahead, next list and completion in turn with successful snapshots hand out exactly the plan's lists in order, and then
  -- SITANKULO_NONE; the read buffer at the end holds the received bytes in order and its old contents beyond; whatever the memory held before
  abbrev pub HandsOutPlanFromC : Type 0
  HandsOutPlanFromC =
      (state buffer : List ℕ) (busy time : ℕ) (os : List Operation) (rs : List Handful)
      → script_of address script ≡ asks os
      → goes_ahead (begin_told state buffer busy time) ≡ true
      → Whole rs
      → Succeed (settings_of kind duration) (begun buffer busy time).progress.fixed (turns_of 31 os) (map round_of rs)
      → course_from_c (renewed state (begun buffer busy time).progress) buffer rs
      ≡ record {
        lists = planned 32 31 address os;
        last = 254;
        buffer = gathered (turns_of 31 os) (map round_of rs) ++ drop (read_total os) buffer;
      }
