-- Laws of a transaction that goes well: what one round does to the record and to the read buffer.
-- Assumes nothing.
use Rattle.std.specs.Prelude.{Option, None, Result, Ok, Err}
use Rattle.refusal.specs.declared.Refusal.{Refusal}
use Prim.Native.Nat.{ℕ, ◌+◌, ◌≤◌}
use native.Mathlib.Omega.{arith}
use mathlib.Core.Path.{◌≡◌, refl, sym, ap, ◌∙◌}
use mathlib.Core.Bool.{true, false, false≢true}
use mathlib.Core.List.{List, ◌++◌}
use lib.ListN.{length, take, drop, length-drop, length-append}
use lib.Seq.{paste, take-append_seam, drop-append-add, drop-drop, length-take-le}
use borrow.Author.Tests.{le-ltb}
use Rattle.bus.specs.Operations.{Operation}
use Rattle.outcome.specs.declared.Outcome.{Outcome}
use Rattle.outcome.specs.declared.Outcome.TheVariants.{Pending, Done, Failed}
use Rattle.outcome.specs.declared.Snapshot.{Snapshot}
use Rattle.outcome.specs.Outcomes.{classify_of, succeeds}
use Rattle.script.specs.Scripts.{asks, read_total, script_of}
use Rattle.turns.specs.Steps.{Step}
use Rattle.turns.specs.Plan.{built_of}
use Rattle.turns.specs.Turns.{turn, over, carries, receives, turns_of, turn_at}
use Rattle.transaction.specs.declared.Settings.{Settings}
use Rattle.transaction.specs.declared.Progress.{Progress}
use Rattle.transaction.specs.declared.Handing.TheVariants as handing
use Rattle.transaction.specs.Deadlines.{due_of}
use Rattle.transaction.specs.Calls.{awaiting, next_of, keeping, complete_of, buffer_of}
use Rattle.demands.specs.Transactions.{goes_well}

-- the record with so many lists completed, and none outstanding
abbrev pub standing : Option ℕ → ℕ → Progress
standing fixed k = record { place = k; outstanding = false; due = None; polled = false; failed = false; fixed = fixed }

-- a time that is told, and an outcome that is success
abbrev pub due_in : Result (Option ℕ) Refusal → Option ℕ
due_in (Ok due) = due
due_in (Err refusal) = None

pub is_told : (t : Result (Option ℕ) Refusal) (s : Snapshot) → goes_well t s ≡ true → t ≡ Ok (due_in t)
is_told (Ok due) s h = refl
is_told (Err refusal) s h = absurd (false≢true h)

is_done : (o : Outcome) → succeeds o ≡ true → o ≡ Done
is_done Pending h = absurd (false≢true h)
is_done Done h = refl
is_done (Failed e) h = absurd (false≢true h)

pub is_success : (t : Result (Option ℕ) Refusal) (s : Snapshot) → goes_well t s ≡ true → (classify_of s false (due_in t)).outcome ≡ Done
is_success (Ok due) s h = is_done (classify_of s false due).outcome h
is_success (Err refusal) s h = absurd (false≢true h)

module _
    (settings : Settings) (address : ℕ) (script : List ℕ) (os : List Operation) (e : script_of address script ≡ asks os)
    (fixed : Option ℕ) (k : ℕ)
  where
    pub round_over : (time : ℕ) → turn_at 0 k (turns_of 31 os) ≡ over → (next_of (standing fixed k) settings address script time).answer ≡ Ok handing.NoneLeft
    unfolding next_of
    round_over time t = rw (e, t)

    module _ (s : Step) (l : ℕ) (t : turn_at 0 k (turns_of 31 os) ≡ turn s l) (due : Option ℕ) where
      pub round_next :
          (time : ℕ)
          → due_of settings.deadline fixed (carries s) time ≡ Ok due
          → next_of (standing fixed k) settings address script time
          ≡ record { answer = Ok handing.Listed; list = (built_of 32 address s).list; progress = awaiting (standing fixed k) due }
      unfolding next_of
      round_next time d = rw (e, t, d)

      module _
          (snapshot : Snapshot) (received buffer : List ℕ) (room : read_total os ≤ length buffer)
          (good : (classify_of snapshot false due).outcome ≡ Done) (enough : receives s ≤ length received)
        where
          pub round_complete :
              complete_of (awaiting (standing fixed k) due) address script snapshot received buffer
              ≡ keeping (Ok Done) (standing fixed (k + 1))
          unfolding complete_of
          round_complete =
              rw (e, t, le-ltb (length buffer) (read_total os) room, good, le-ltb (length received) (receives s) enough)

          pub round_buffer :
              buffer_of (awaiting (standing fixed k) due) address script snapshot received buffer ≡ paste buffer l received (receives s)
          unfolding buffer_of
          round_buffer = rw (round_complete, e, t)

-- what has been gathered, and the old contents beyond
module _ (old : List ℕ) where
  abbrev pub filled : List ℕ → List ℕ
  filled g = g ++ drop (length g) old

  pub length_filled : (g : List ℕ) → length g ≤ length old → length (filled g) ≡ length old
  length_filled g h = length-append g (drop (length g) old) ∙ rw (length-drop (length g) old) (omega arith)

  fill_more :
      (g received : List ℕ) (n : ℕ)
      → n ≤ length received
      → paste (filled g) (length g) received n ≡ filled (g ++ take n received)
  fill_more g received n h =
      rw (
        take-append_seam g (drop (length g) old),
        drop-append-add g (drop (length g) old) n,
        drop-drop n (length g) old,
        length-append g (take n received),
        length-take-le n received h,
      )

  pub fill_at :
      (g received : List ℕ) (at n : ℕ)
      → length g ≡ at
      → n ≤ length received
      → paste (filled g) at received n ≡ filled (g ++ take n received)
  fill_at g received at n e h = ap (λ (m : ℕ). paste (filled g) m received n) (sym e) ∙ fill_more g received n h
