-- Laws of completion: what was told of a list makes the record and the read buffer.
-- Assumes nothing.
use Rattle.std.specs.Prelude.{Ok}
use Prim.Native.Nat.{ℕ}
use mathlib.Core.Path.{◌≡◌, refl, ap, ◌∙◌}
use mathlib.Core.Bool.{Bool, true, false, cond}
use mathlib.Core.List.{List}
use lib.Dec.{ltb}
use Rattle.outcome.specs.declared.Classified.{Classified}
use Rattle.outcome.specs.declared.Error.TheVariants.{ExecutionIncomplete}
use Rattle.outcome.specs.declared.Outcome.{Outcome}
use Rattle.outcome.specs.declared.Outcome.TheVariants.{Pending, Done, Failed}
use Rattle.outcome.specs.Outcomes.{received_of}
use Rattle.transaction.specs.declared.Progress.{Progress}
use Rattle.transaction.specs.declared.Completed.{Completed}
use Rattle.transaction.specs.Calls.{landed_by, told_as, told_by, succeeded}

module _ (told : Classified) (n got : ℕ) (p q : Progress) (before laid : List ℕ) (t : Outcome) where
  abbrev After : Outcome → Type 0
  After u = ◌≡◌ {A = Completed} (record { answer = Ok t; progress = q }) (told_as u told.polled Done p)

  abbrev Settled : List ℕ → Type 0
  Settled after =
      (◌≡◌ {A = Completed} (record { answer = Ok t; progress = q }) (told_by told (received_of n got) p))
      × (after ≡ cond (succeeded (Ok t)) laid before)

  -- the list has been executed: what arrived decides
  pub settled_done :
      told.outcome ≡ Done
      → t ≡ received_of n got
      → After t
      → (after : List ℕ)
      → after ≡ cond (succeeded (Ok t)) laid before
      → Settled after
  settled_done o a e after b = (e ∙ ap (λ (u : Outcome). told_as u told.polled Done p) a ∙ rw o (go (ltb got n)), b) where
    go :
        (few : Bool)
        → told_as (cond few (Failed ExecutionIncomplete) Done) told.polled Done p
        ≡ landed_by (cond few (Failed ExecutionIncomplete) Done) p
    go true = refl
    go false = refl

  -- or it has not, and nothing lands
  pub settled_undone : (told.outcome ≡ Done → ⊥) → t ≡ told.outcome → After t → Settled before
  settled_undone o a e = (e ∙ (go t (λ d. o (cc))).0 ∙ rw a refl, (go t (λ d. o (cc))).1) where
    go :
        (u : Outcome)
        → (u ≡ Done → ⊥)
        → (told_as u told.polled Done p ≡ told_as u told.polled (received_of n got) p)
        × (before ≡ cond (succeeded (Ok u)) laid before)
    go Pending h = (refl, refl)
    go (Failed error) h = (refl, refl)
    go Done h = absurd (h refl)
