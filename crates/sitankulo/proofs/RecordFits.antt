-- Every number of a record that a call leaves fits its eight bytes, so that it is read back as it was.
-- Assumes nothing.
use Rattle.std.specs.Prelude.{Option, None, Result, Ok, Err}
use Rattle.refusal.specs.declared.Refusal.{Refusal}
use Prim.Native.Nat.{ℕ, ◌<◌}
use native.Mathlib.Omega.{arith}
use mathlib.Core.Path.{◌≡◌, refl}
use mathlib.Core.Bool.{Bool, not}
use mathlib.Core.List.{List}
use lib.ListN.{length}
use lib.Dec.{ltb}
use borrow.Author.Tests.{ltb-false}
use Rattle.outcome.specs.declared.Outcome.{Outcome}
use Rattle.outcome.specs.declared.Outcome.TheVariants.{Pending, Done, Failed}
use Rattle.outcome.specs.declared.Snapshot.{Snapshot}
use Rattle.outcome.specs.Outcomes.{classify_of, received_of}
use Rattle.script.specs.Scripts.{Script, asks, refused, read_total, script_of}
use Rattle.turns.specs.Steps.{Step}
use Rattle.turns.specs.Plan.{built_of}
use Rattle.turns.specs.Turns.{Turn, turn, over, beyond, carries, receives, turns_of, turn_at}
use Rattle.transaction.specs.declared.Deadline.{Deadline}
use Rattle.transaction.specs.declared.Deadline.TheVariants.{None, Fixed, PerByte}
use Rattle.transaction.specs.declared.Settings.{Settings}
use Rattle.transaction.specs.declared.Progress.{Progress}
use Rattle.transaction.specs.declared.Handed.{Handed}
use Rattle.transaction.specs.declared.Completed.{Completed}
use Rattle.transaction.specs.declared.Abandoned.{Abandoned}
use Rattle.transaction.specs.declared.Begun.{Begun}
use Rattle.transaction.specs.Deadlines.{time_of, fixed_of, due_of}
use Rattle.transaction.specs.Calls.{accepted_by, begun_by, begin_of, out_of_turn, handed_by, turn_handed, next_by, next_of, told_as, landed_by, turn_completed, complete_by, complete_of, abandon_of}
use Rattle.transaction.proofs.FewLists.{place_below}
use Rattle.sitankulo.specs.Records.{time_in}
use Rattle.sitankulo.proofs.LawsTests.{by_test}
use Rattle.sitankulo.proofs.RecordReturns.{Fits}

-- a time that is told has at most 64 bits
abbrev Timely : Result (Option ℕ) Refusal → Type 0
Timely (Ok due) = time_in due < 0x10000000000000000
Timely (Err refusal) = Unit {0}

sum_timely : (sum : ℕ) → Timely (time_of sum)
unfolding time_of
sum_timely sum =
    by_test Timely (ltb 0xFFFFFFFFFFFFFFFF sum) _ _ (λ e. tt) (λ e. let most = ltb-false 0xFFFFFFFFFFFFFFFF sum e in omega (arith, most))

fixed_timely : (d : Deadline) (time : ℕ) → Timely (fixed_of d time)
fixed_timely None time = omega arith
fixed_timely (Fixed duration) time = sum_timely _
fixed_timely (PerByte duration) time = omega arith

due_timely : (d : Deadline) (fixed : Option ℕ) (n time : ℕ) → time_in fixed < 0x10000000000000000 → Timely (due_of d fixed n time)
due_timely None fixed n time h = omega arith
due_timely (Fixed duration) fixed n time h = h
due_timely (PerByte duration) fixed n time h = sum_timely _

module _ (p : Progress) (fits : Fits p) where
  accepted_fits : (t : Result (Option ℕ) Refusal) (busy : Bool) → Timely t → Fits (accepted_by t busy p).progress
  accepted_fits (Err refusal) busy h = fits
  accepted_fits (Ok fixed) busy h = (omega arith, omega arith, h)

  begun_fits : (s : Script) (settings : Settings) (room : ℕ) (busy : Bool) (time : ℕ) → Fits (begun_by s p settings room busy time).progress
  begun_fits (refused r) settings room busy time = fits
  begun_fits (asks os) settings room busy time =
      by_test (λ (b : Begun). Fits b.progress) (ltb room (read_total os)) _ _ (λ e. fits)
      (λ e. accepted_fits (fixed_of settings.deadline time) busy (fixed_timely settings.deadline time))

  pub begin_fits :
      (settings : Settings) (address : ℕ) (script : List ℕ) (room : ℕ) (busy : Bool) (time : ℕ)
      → Fits (begin_of p settings address script room busy time).progress
  unfolding begin_of
  begin_fits settings address script room busy time = begun_fits (script_of address script) settings room busy time

  handed_fits : (t : Turn) (settings : Settings) (address time : ℕ) → Fits (turn_handed t p settings address time).progress
  handed_fits beyond settings address time = fits
  handed_fits over settings address time =
      by_test (λ (h : Handed). Fits h.progress) p.outstanding _ _ (λ e. fits)
      (λ e. by_test (λ (h : Handed). Fits h.progress) (out_of_turn p) _ _ (λ q. fits) (λ q. fits))
  handed_fits (turn s landing) settings address time =
      by_test (λ (h : Handed). Fits h.progress) (out_of_turn p) _ _ (λ e. fits)
      (λ e. timed (due_of settings.deadline p.fixed (carries s) time) (due_timely settings.deadline p.fixed (carries s) time fits.2)) where
        timed : (t : Result (Option ℕ) Refusal) → Timely t → Fits (handed_by t (built_of 32 address s).list p).progress
        timed (Err refusal) h = fits
        timed (Ok due) h = (fits.0, h, fits.2)

  asked_fits : (s : Script) (settings : Settings) (address time : ℕ) → Fits (next_by s p settings address time).progress
  asked_fits (refused r) settings address time = fits
  asked_fits (asks os) settings address time = handed_fits (turn_at 0 p.place (turns_of 31 os)) settings address time

  pub next_fits : (settings : Settings) (address : ℕ) (script : List ℕ) (time : ℕ) → Fits (next_of p settings address script time).progress
  unfolding next_of
  next_fits settings address script time = asked_fits (script_of address script) settings address time

  pub abandon_fits : (s : Snapshot) → Fits (abandon_of p s).progress
  unfolding abandon_of
  abandon_fits s =
      by_test (λ (a : Abandoned). Fits a.progress) (not p.outstanding) _ _ (λ e. fits) (λ e. (fits.0, omega arith, fits.2))

  -- a list that is completed is one of the script's, which has few
  landed_fits : p.place < 8192 → (o : Outcome) → Fits (landed_by o p).progress
  landed_fits below Pending = fits
  landed_fits below Done = (omega arith, omega arith, fits.2)
  landed_fits below (Failed error) = (fits.0, omega arith, fits.2)

  told_fits : p.place < 8192 → (o : Outcome) (polled : Bool) (arrived : Outcome) → Fits (told_as o polled arrived p).progress
  told_fits below Pending polled arrived = fits
  told_fits below (Failed error) polled arrived = (fits.0, omega arith, fits.2)
  told_fits below Done polled arrived = landed_fits below arrived

  turn_fits :
      (t : Turn)
      → ((step : Step) (landing : ℕ) → t ≡ turn step landing → p.place < 8192)
      → (total : ℕ) (s : Snapshot) (received room : ℕ)
      → Fits (turn_completed t total p s received room).progress
  turn_fits beyond below total s received room = fits
  turn_fits over below total s received room =
      by_test (λ (c : Completed). Fits c.progress) p.outstanding _ _ (λ e. fits) (λ e. fits)
  turn_fits (turn t landing) below total s received room =
      by_test (λ (c : Completed). Fits c.progress) (not p.outstanding) _ _ (λ e. fits)
      (λ e. by_test (λ (c : Completed). Fits c.progress) (ltb room total) _ _ (λ q. fits)
      (λ q. told_fits (below t landing refl) (classify_of s p.polled p.due).outcome (classify_of s p.polled p.due).polled
      (received_of (receives t) received)))

  completed_fits :
      (address : ℕ) (script : List ℕ) (k : Script)
      → script_of address script ≡ k
      → (s : Snapshot) (received room : ℕ)
      → Fits (complete_by k p s received room).progress
  completed_fits address script (refused r) e s received room = fits
  completed_fits address script (asks os) e s received room =
      turn_fits (turn_at 0 p.place (turns_of 31 os)) (λ step landing found. place_below address script os p.place step landing e found)
      (read_total os) s received room

  pub complete_fits :
      (address : ℕ) (script : List ℕ) (s : Snapshot) (received buffer : List ℕ)
      → Fits (complete_of p address script s received buffer).progress
  unfolding complete_of
  complete_fits address script s received buffer =
      completed_fits address script (script_of address script) refl s (length received) (length buffer)
