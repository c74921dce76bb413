-- Laws of outcomes, for citing: what one slot adds to the walk.
-- Assumes nothing.
use Prim.Native.Nat.{ℕ, ◌+◌, ◌≤◌, ◌<◌}
use mathlib.Core.Path.{◌≡◌}
use mathlib.Core.List.{List, ◌∷◌}
use mathlib.Core.Bool.{Bool}
use lib.ListN.{length, get_or, drop}
use Rattle.std.proofs.lemmas.Bool.Decides.{nat_tests}
use Rattle.std.proofs.lemmas.List.{at_drop_more, at_drop_all}
use Rattle.outcome.specs.Outcomes.{slots_of}
use Rattle.outcome.specs.declared.Outcome.TheVariants.{Done}

-- the walk from slot i on looks at slot i first
pub slot_here :
    (past : Bool) (slots : List ℕ) (i : ℕ)
    → i < length slots
    → slots_of past (drop i slots) ≡ slots_of past (get_or slots i 0 ∷ drop (i + 1) slots)
slot_here past slots i h = at_drop_more (slots_of past) slots i 0 h

-- past the last slot nothing is waited for
pub slots_over : (past : Bool) (slots : List ℕ) (i : ℕ) → length slots ≤ i → slots_of past (drop i slots) ≡ Done
unfolding slots_of
slots_over past slots i h = at_drop_all (slots_of past) slots i h

-- by these the walk is followed slot by slot
pub ruleset slots = (slot_here, slots_over, nat_tests)
