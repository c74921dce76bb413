-- Every record that a call leaves has the form that its layout demands, so that the next call takes it for what it is.
-- Assumes nothing.
use Rattle.std.specs.Prelude.{Option, Result, Ok, Err}
use Rattle.refusal.specs.declared.Refusal.{Refusal}
use Prim.Native.Nat.{ℕ}
use mathlib.Core.Path.{◌≡◌, refl, sym}
use mathlib.Core.Bool.{Bool, true, false, not, ◌||◌, false≢true}
use mathlib.Core.List.{List}
use lib.ListN.{length}
use lib.Dec.{ltb}
use borrow.Author.Tests.{not-false}
use Rattle.outcome.specs.declared.Outcome.{Outcome}
use Rattle.outcome.specs.declared.Outcome.TheVariants.{Pending, Done, Failed}
use Rattle.outcome.specs.declared.Snapshot.{Snapshot}
use Rattle.outcome.specs.Outcomes.{classify_of, received_of}
use Rattle.script.specs.Scripts.{Script, asks, refused, read_total, script_of}
use Rattle.turns.specs.Plan.{built_of}
use Rattle.turns.specs.Turns.{Turn, turn, over, beyond, carries, receives, turns_of, turn_at}
use Rattle.transaction.specs.declared.Settings.{Settings}
use Rattle.transaction.specs.declared.Progress.{Progress}
use Rattle.transaction.specs.declared.Handed.{Handed}
use Rattle.transaction.specs.declared.Completed.{Completed}
use Rattle.transaction.specs.declared.Abandoned.{Abandoned}
use Rattle.transaction.specs.declared.Begun.{Begun}
use Rattle.transaction.specs.Deadlines.{fixed_of, due_of}
use Rattle.transaction.specs.Calls.{waiting, accepted_by, begun_by, begin_of, out_of_turn, handed_by, turn_handed, next_by, next_of, told_as, landed_by, turn_completed, complete_by, complete_of, abandon_of}
use Rattle.sitankulo.specs.Records.{standing}
use Rattle.sitankulo.proofs.LawsTests.{by_test}

abbrev pub Stands : Progress → Type 0
Stands p = standing p ≡ true

-- a record that is begun with is handed back or made anew
module _ (before : Progress) (stands : Stands before) where
  begun_stands : (s : Script) (settings : Settings) (room : ℕ) (busy : Bool) (time : ℕ) → Stands (begun_by s before settings room busy time).progress
  begun_stands (refused r) settings room busy time = stands
  begun_stands (asks os) settings room busy time =
      by_test (λ (b : Begun). Stands b.progress) (ltb room (read_total os)) _ _ (λ e. stands) (λ e. timed (fixed_of settings.deadline time)) where
        timed : (t : Result (Option ℕ) Refusal) → Stands (accepted_by t busy before).progress
        timed (Err refusal) = stands
        timed (Ok fixed) = refl

  pub begin_stands : (settings : Settings) (address : ℕ) (script : List ℕ) (room : ℕ) (busy : Bool) (time : ℕ)
      → Stands (begin_of before settings address script room busy time).progress
  unfolding begin_of
  begin_stands settings address script room busy time = begun_stands (script_of address script) settings room busy time

module _ (p : Progress) (stands : Stands p) where
  -- a list is handed out where none is outstanding and none has failed
  awaiting_stands : (o f : Bool) → (o || f) ≡ false → not f ≡ true
  awaiting_stands true f e = absurd (false≢true (sym e))
  awaiting_stands false true e = absurd (false≢true (sym e))
  awaiting_stands false false e = refl

  handed_stands : (t : Turn) (settings : Settings) (address time : ℕ) → Stands (turn_handed t p settings address time).progress
  handed_stands beyond settings address time = stands
  handed_stands over settings address time =
      by_test (λ (h : Handed). Stands h.progress) p.outstanding _ _ (λ e. stands)
      (λ e. by_test (λ (h : Handed). Stands h.progress) (out_of_turn p) _ _ (λ q. stands) (λ q. stands))
  handed_stands (turn s landing) settings address time =
      by_test (λ (h : Handed). Stands h.progress) (out_of_turn p) _ _ (λ e. stands)
      (λ e. timed e (due_of settings.deadline p.fixed (carries s) time)) where
        timed : out_of_turn p ≡ false → (t : Result (Option ℕ) Refusal) → Stands (handed_by t (built_of 32 address s).list p).progress
        timed e (Err refusal) = stands
        timed e (Ok due) = awaiting_stands p.outstanding p.failed e

  asked_stands : (s : Script) (settings : Settings) (address time : ℕ) → Stands (next_by s p settings address time).progress
  asked_stands (refused r) settings address time = stands
  asked_stands (asks os) settings address time = handed_stands (turn_at 0 p.place (turns_of 31 os)) settings address time

  pub next_stands : (settings : Settings) (address : ℕ) (script : List ℕ) (time : ℕ) → Stands (next_of p settings address script time).progress
  unfolding next_of
  next_stands settings address script time = asked_stands (script_of address script) settings address time

  -- a list that is waited for is outstanding still
  waiting_stands : (polled : Bool) → p.outstanding ≡ true → Stands (waiting p polled)
  waiting_stands polled e = rw e (rw e at stands)

  landed_stands : (o : Outcome) → p.outstanding ≡ true → Stands (landed_by o p).progress
  landed_stands Pending e = stands
  landed_stands Done e = refl
  landed_stands (Failed error) e = refl

  told_stands : (o : Outcome) (polled : Bool) (arrived : Outcome) → p.outstanding ≡ true → Stands (told_as o polled arrived p).progress
  told_stands Pending polled arrived e = waiting_stands polled e
  told_stands (Failed error) polled arrived e = refl
  told_stands Done polled arrived e = landed_stands arrived e

  turn_stands : (t : Turn) (total : ℕ) (s : Snapshot) (received room : ℕ) → Stands (turn_completed t total p s received room).progress
  turn_stands beyond total s received room = stands
  turn_stands over total s received room =
      by_test (λ (c : Completed). Stands c.progress) p.outstanding _ _ (λ e. stands) (λ e. stands)
  turn_stands (turn t landing) total s received room =
      by_test (λ (c : Completed). Stands c.progress) (not p.outstanding) _ _ (λ e. stands)
      (λ e. by_test (λ (c : Completed). Stands c.progress) (ltb room total) _ _ (λ q. stands)
      (λ q. told_stands (classify_of s p.polled p.due).outcome (classify_of s p.polled p.due).polled
      (received_of (receives t) received) (not-false p.outstanding e)))

  completed_stands : (k : Script) (s : Snapshot) (received room : ℕ) → Stands (complete_by k p s received room).progress
  completed_stands (refused r) s received room = stands
  completed_stands (asks os) s received room = turn_stands (turn_at 0 p.place (turns_of 31 os)) (read_total os) s received room

  pub complete_stands : (address : ℕ) (script : List ℕ) (s : Snapshot) (received buffer : List ℕ)
      → Stands (complete_of p address script s received buffer).progress
  unfolding complete_of
  complete_stands address script s received buffer = completed_stands (script_of address script) s (length received) (length buffer)

  pub abandon_stands : (s : Snapshot) → Stands (abandon_of p s).progress
  unfolding abandon_of
  abandon_stands s = by_test (λ (a : Abandoned). Stands a.progress) (not p.outstanding) _ _ (λ e. stands) (λ e. refl)
