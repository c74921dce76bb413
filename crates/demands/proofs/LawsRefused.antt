-- Laws of refused calls: each hands the record back as it was.
-- Assumes nothing.
use Rattle.std.specs.Prelude.{Option, Result, Ok, Err}
use Rattle.refusal.specs.declared.Refusal.{Refusal}
use Prim.Native.Nat.{ℕ}
use mathlib.Core.Path.{◌≡◌, refl, sym, ◌∙◌}
use mathlib.Core.Bool.{Bool, true, false, cond, not, ◌&&◌, false≢true}
use lib.Dec.{ltb}
use Rattle.refusal.specs.declared.Refusal.TheVariants.{Shape, Room, OutOfTurn}
use Rattle.outcome.specs.declared.Outcome.{Outcome}
use Rattle.outcome.specs.declared.Outcome.TheVariants.{Pending, Done, Failed}
use Rattle.outcome.specs.declared.Snapshot.{Snapshot}
use Rattle.outcome.specs.Outcomes.{poll_of, classify_of, received_of}
use Rattle.list.specs.declared.CommandList.{CommandList}
use Rattle.script.specs.Scripts.{Script, asks, refused, read_total}
use Rattle.turns.specs.Plan.{built_of}
use Rattle.turns.specs.Turns.{Turn, turn, over, beyond, carries, receives, turns_of, turn_at}
use Rattle.transaction.specs.declared.Settings.{Settings}
use Rattle.transaction.specs.declared.Progress.{Progress}
use Rattle.transaction.specs.declared.Beginning.{Beginning}
use Rattle.transaction.specs.declared.Beginning.TheVariants as beginning
use Rattle.transaction.specs.declared.Handing.{Handing}
use Rattle.transaction.specs.declared.Handing.TheVariants as handing
use Rattle.transaction.specs.declared.Handed.{Handed}
use Rattle.transaction.specs.declared.Completed.{Completed}
use Rattle.transaction.specs.declared.Abandonment.{Abandonment}
use Rattle.transaction.specs.declared.Abandonment.TheVariants as abandonment
use Rattle.transaction.specs.declared.Abandoned.{Abandoned}
use Rattle.transaction.specs.Deadlines.{fixed_of, due_of}
use Rattle.transaction.specs.Calls.{accepted_by, begun_by, no_list, without_list, handed_by, out_of_turn, turn_handed, next_by, keeping, failing, landed_by, told_as, turn_completed, complete_by, resets, abandon_of}

-- is it a refusal?
abbrev pub begins : Result Beginning Refusal → Bool
begins (Ok beginning.Ready) = true
begins (Ok beginning.ClearFirst) = true
begins (Err r) = false

abbrev pub hands : Result Handing Refusal → Bool
hands (Ok handing.Listed) = true
hands (Ok handing.NoneLeft) = true
hands (Err r) = false

abbrev pub tells : Result Outcome Refusal → Bool
tells (Ok o) = true
tells (Err r) = false

abbrev pub abandoned : Result Abandonment Refusal → Bool
abandoned (Ok abandonment.Quiet) = true
abandoned (Ok abandonment.ResetAndClear) = true
abandoned (Err r) = false

module _ (p : Progress) where
  -- begin
  accepted_kept : (t : Result (Option ℕ) Refusal) (busy : Bool) → begins (accepted_by t busy p).answer ≡ false → (accepted_by t busy p).progress ≡ p
  accepted_kept (Err refusal) busy h = refl
  accepted_kept (Ok due) true h = absurd (false≢true (sym h))
  accepted_kept (Ok due) false h = absurd (false≢true (sym h))

  pub begun_kept :
      (x : Script) (settings : Settings) (room : ℕ) (busy : Bool) (time : ℕ)
      → begins (begun_by x p settings room busy time).answer ≡ false
      → (begun_by x p settings room busy time).progress ≡ p
  begun_kept (refused r) settings room busy time h = refl
  begun_kept (asks os) settings room busy time h = go (ltb room (read_total os)) h where
    go :
        (small : Bool)
        → begins (cond small (record { answer = Err Room; progress = p }) (accepted_by (fixed_of settings.deadline time) busy p)).answer ≡ false
        → (cond small (record { answer = Err Room; progress = p }) (accepted_by (fixed_of settings.deadline time) busy p)).progress ≡ p
    go true q = refl
    go false q = accepted_kept (fixed_of settings.deadline time) busy q

  -- next list
  abbrev HandKept : Handed → Type 0
  HandKept h = hands h.answer ≡ false → (h.progress ≡ p) × (h.list ≡ no_list)

  handed_kept : (t : Result (Option ℕ) Refusal) (l : CommandList) → HandKept (handed_by t l p)
  handed_kept (Err refusal) l h = (refl, refl)
  handed_kept (Ok due) l h = absurd (false≢true (sym h))

  turn_kept : (t : Turn) (settings : Settings) (address time : ℕ) → HandKept (turn_handed t p settings address time)
  turn_kept beyond settings address time h = (refl, refl)
  turn_kept over settings address time h = go p.outstanding (out_of_turn p) h where
    go :
        (a b : Bool)
        → HandKept (cond a (without_list (Err Shape) p) (cond b (without_list (Err OutOfTurn) p) (without_list (Ok handing.NoneLeft) p)))
    go true b q = (refl, refl)
    go false true q = (refl, refl)
    go false false q = absurd (false≢true (sym q))
  turn_kept (turn s at) settings address time h = go (out_of_turn p) h where
    go :
        (a : Bool)
        → HandKept (cond a (without_list (Err OutOfTurn) p) (handed_by (due_of settings.deadline p.fixed (carries s) time) (built_of 32 address s).list p))
    go true q = (refl, refl)
    go false q = handed_kept (due_of settings.deadline p.fixed (carries s) time) (built_of 32 address s).list q

  pub next_kept : (x : Script) (settings : Settings) (address time : ℕ) → HandKept (next_by x p settings address time)
  next_kept (refused r) settings address time h = (refl, refl)
  next_kept (asks os) settings address time h = turn_kept (turn_at 0 p.place (turns_of 31 os)) settings address time h

  -- completion
  abbrev ToldKept : Completed → Type 0
  ToldKept c = tells c.answer ≡ false → c.progress ≡ p

  landed_told : (o : Outcome) → tells (landed_by o p).answer ≡ true
  landed_told Pending = refl
  landed_told Done = refl
  landed_told (Failed e) = refl

  told_told : (o : Outcome) (polled : Bool) (arrived : Outcome) → tells (told_as o polled arrived p).answer ≡ true
  told_told Pending polled arrived = refl
  told_told (Failed e) polled arrived = refl
  told_told Done polled arrived = landed_told arrived

  completed_kept : (t : Turn) (total : ℕ) (s : Snapshot) (got room : ℕ) → ToldKept (turn_completed t total p s got room)
  completed_kept beyond total s got room h = refl
  completed_kept over total s got room h = go p.outstanding where
    go : (a : Bool) → (cond a (keeping (Err Shape) p) (keeping (Err OutOfTurn) p)).progress ≡ p
    go true = refl
    go false = refl
  completed_kept (turn t at) total s got room h = go (not p.outstanding) (ltb room total) h where
    go :
        (a b : Bool)
        → ToldKept (cond a (keeping (Err OutOfTurn) p) (cond b (keeping (Err Room) p) (told_as (classify_of s p.polled p.due).outcome (classify_of s p.polled p.due).polled (received_of (receives t) got) p)))
    go true b q = refl
    go false true q = refl
    go false false q =
        absurd (false≢true (sym q ∙ told_told (classify_of s p.polled p.due).outcome (classify_of s p.polled p.due).polled (received_of (receives t) got)))

  pub complete_kept : (x : Script) (s : Snapshot) (got room : ℕ) → ToldKept (complete_by x p s got room)
  complete_kept (refused r) s got room h = refl
  complete_kept (asks os) s got room h = completed_kept (turn_at 0 p.place (turns_of 31 os)) (read_total os) s got room h

  -- abandoning
  pub abandon_kept : (s : Snapshot) → abandoned (abandon_of p s).answer ≡ false → (abandon_of p s).progress ≡ p
  unfolding abandon_of
  abandon_kept s h = go (not p.outstanding) (not p.polled && resets (poll_of s p.due)) h where
    go :
        (a b : Bool)
        → abandoned (cond {A = Abandoned} a (record { answer = Err OutOfTurn; progress = p }) (record { answer = cond b (Ok abandonment.ResetAndClear) (Ok abandonment.Quiet); progress = failing p })).answer ≡ false
        → (cond {A = Abandoned} a (record { answer = Err OutOfTurn; progress = p }) (record { answer = cond b (Ok abandonment.ResetAndClear) (Ok abandonment.Quiet); progress = failing p })).progress ≡ p
    go true b q = refl
    go false true q = absurd (false≢true (sym q))
    go false false q = absurd (false≢true (sym q))
