-- After a failure, or once abandoned, a transaction hands out no list, whatever is called and with whatever it is handed.
-- Assumes nothing.
use Rattle.std.specs.Prelude.{Result, Ok, Err}
use Rattle.refusal.specs.declared.Refusal.{Refusal}
use Prim.Native.Nat.{ℕ}
use mathlib.Core.Path.{◌≡◌, refl, sym, ap}
use mathlib.Core.Bool.{Bool, true, false, cond, not, ◌&&◌, false≢true}
use mathlib.Core.List.{List, [], ◌∷◌}
use lib.ListN.{length}
use lib.Dec.{ltb}
use Rattle.refusal.specs.declared.Refusal.TheVariants.{Shape, Room, OutOfTurn}
use Rattle.outcome.specs.declared.Outcome.{Outcome}
use Rattle.outcome.specs.declared.Outcome.TheVariants.{Pending, Done, Failed}
use Rattle.outcome.specs.declared.Snapshot.{Snapshot}
use Rattle.outcome.specs.Outcomes.{poll_of, classify_of, received_of}
use Rattle.script.specs.Scripts.{Script, asks, refused, read_total, script_of}
use Rattle.turns.specs.Turns.{Turn, turn, over, beyond, receives, turns_of, turn_at}
use Rattle.transaction.specs.declared.Settings.{Settings}
use Rattle.transaction.specs.declared.Progress.{Progress}
use Rattle.transaction.specs.declared.Handing.{Handing}
use Rattle.transaction.specs.declared.Handing.TheVariants as handing
use Rattle.transaction.specs.declared.Completed.{Completed}
use Rattle.transaction.specs.declared.Abandonment.TheVariants as abandonment
use Rattle.transaction.specs.declared.Abandoned.{Abandoned}
use Rattle.transaction.specs.Calls.{turn_handed, next_by, next_of, keeping, failing, landed_by, told_as, turn_completed, complete_by, complete_of, resets, abandon_of}
use Rattle.demands.specs.Transactions.{our_calls, Later, nexts, completes, abandons, is_list, none_listed, FailedEnds}
use Rattle.demands.proofs.LawsRefused.{hands, tells, abandoned, next_kept, complete_kept, abandon_kept}

-- no list is outstanding, and the transaction has failed
abbrev Ended : Progress → Type 0
Ended p = (p.outstanding ≡ false) × (p.failed ≡ true)

module _ (p : Progress) (e : Ended p) where
  turn_refused : (t : Turn) (settings : Settings) (address time : ℕ) → hands (turn_handed t p settings address time).answer ≡ false
  turn_refused beyond settings address time = refl
  turn_refused over settings address time = rw (e.0, e.1)
  turn_refused (turn s at) settings address time = rw (e.0, e.1)

  next_refused : (x : Script) (settings : Settings) (address time : ℕ) → hands (next_by x p settings address time).answer ≡ false
  next_refused (refused r) settings address time = refl
  next_refused (asks os) settings address time = turn_refused (turn_at 0 p.place (turns_of 31 os)) settings address time

  completed_refused : (t : Turn) (total : ℕ) (s : Snapshot) (got room : ℕ) → tells (turn_completed t total p s got room).answer ≡ false
  completed_refused beyond total s got room = refl
  completed_refused over total s got room = rw e.0
  completed_refused (turn t at) total s got room = rw e.0

  complete_refused : (x : Script) (s : Snapshot) (got room : ℕ) → tells (complete_by x p s got room).answer ≡ false
  complete_refused (refused r) s got room = refl
  complete_refused (asks os) s got room = completed_refused (turn_at 0 p.place (turns_of 31 os)) (read_total os) s got room

  abandon_refused : (s : Snapshot) → abandoned (abandon_of p s).answer ≡ false
  unfolding abandon_of
  abandon_refused s = rw e.0

  no_list_lem : (h : Result Handing Refusal) → hands h ≡ false → is_list h ≡ false
  no_list_lem (Ok handing.Listed) q = absurd (false≢true (sym q))
  no_list_lem (Ok handing.NoneLeft) q = absurd (false≢true (sym q))
  no_list_lem (Err r) q = refl

  ended : (ls : List Later) → none_listed our_calls p ls
  unfolding none_listed next_of complete_of
  ended [] = tt
  ended (nexts settings address script time ∷ ls) =
      let x = script_of address script in
      let none = next_refused x settings address time in (
        no_list_lem (next_by x p settings address time).answer none,
        rw (next_kept p x settings address time none).0 (ended ls),
      )
  ended (completes address script s received buffer ∷ ls) =
      let x = script_of address script in
      rw (complete_kept p x s (length received) (length buffer) (complete_refused x s (length received) (length buffer))) (ended ls)
  ended (abandons s ∷ ls) = rw (abandon_kept p s (abandon_refused s)) (ended ls)

-- which completions fail
abbrev fails : Result Outcome Refusal → Bool
fails (Ok Pending) = false
fails (Ok Done) = false
fails (Ok (Failed e)) = true
fails (Err r) = false

module _ (p : Progress) where
  landed_ends : (o : Outcome) → fails (landed_by o p).answer ≡ true → Ended (landed_by o p).progress
  landed_ends Pending h = absurd (false≢true h)
  landed_ends Done h = absurd (false≢true h)
  landed_ends (Failed e) h = (refl, refl)

  told_ends : (o : Outcome) (polled : Bool) (arrived : Outcome) → fails (told_as o polled arrived p).answer ≡ true → Ended (told_as o polled arrived p).progress
  told_ends Pending polled arrived h = absurd (false≢true h)
  told_ends (Failed e) polled arrived h = (refl, refl)
  told_ends Done polled arrived h = landed_ends arrived h

  abbrev Ends : Completed → Type 0
  Ends c = fails c.answer ≡ true → Ended c.progress

  completed_ends : (t : Turn) (total : ℕ) (s : Snapshot) (got room : ℕ) → Ends (turn_completed t total p s got room)
  completed_ends beyond total s got room h = absurd (false≢true h)
  completed_ends over total s got room h = go p.outstanding h where
    go : (a : Bool) → Ends (cond a (keeping (Err Shape) p) (keeping (Err OutOfTurn) p))
    go true q = absurd (false≢true q)
    go false q = absurd (false≢true q)
  completed_ends (turn t at) total s got room h = go (not p.outstanding) (ltb room total) h where
    go :
        (a b : Bool)
        → Ends (cond a (keeping (Err OutOfTurn) p) (cond b (keeping (Err Room) p) (told_as (classify_of s p.polled p.due).outcome (classify_of s p.polled p.due).polled (received_of (receives t) got) p)))
    go true b q = absurd (false≢true q)
    go false true q = absurd (false≢true q)
    go false false q =
        told_ends (classify_of s p.polled p.due).outcome (classify_of s p.polled p.due).polled (received_of (receives t) got) q

  complete_ends : (x : Script) (s : Snapshot) (got room : ℕ) → Ends (complete_by x p s got room)
  complete_ends (refused r) s got room h = absurd (false≢true h)
  complete_ends (asks os) s got room h = completed_ends (turn_at 0 p.place (turns_of 31 os)) (read_total os) s got room h

  abandon_ends : (s : Snapshot) → ((abandon_of p s).answer ≡ Err OutOfTurn → ⊥) → Ended (abandon_of p s).progress
  unfolding abandon_of
  abandon_ends s h = go (not p.outstanding) (not p.polled && resets (poll_of s p.due)) h where
    go :
        (a b : Bool)
        → ((cond {A = Abandoned} a (record { answer = Err OutOfTurn; progress = p }) (record { answer = cond b (Ok abandonment.ResetAndClear) (Ok abandonment.Quiet); progress = failing p })).answer ≡ Err OutOfTurn → ⊥)
        → Ended (cond {A = Abandoned} a (record { answer = Err OutOfTurn; progress = p }) (record { answer = cond b (Ok abandonment.ResetAndClear) (Ok abandonment.Quiet); progress = failing p })).progress
    go true b q = absurd (q refl)
    go false b q = (refl, refl)

pub failed_ends : FailedEnds our_calls
unfolding complete_of
failed_ends =
    record {
      by_complete = λ p address script s received buffer e ls h.
          ended _ (complete_ends p (script_of address script) s (length received) (length buffer) (ap fails h)) ls;
      by_abandon = λ p s ls h. ended _ (abandon_ends p s h) ls;
    }
