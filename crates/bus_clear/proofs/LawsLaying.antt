-- Laws of laying pin changes into memory, for citing.
-- Assumes nothing.
use Prim.Native.Nat.{ℕ, suc, ◌+◌, ◌-◌, ◌<◌}
use native.Mathlib.Omega.{arith}
use native.Mathlib.Nat.{add-zero}
use native.Mathlib.Numerals.{add-one}
use mathlib.Core.Path.{◌≡◌, refl, sym, ap, ◌∙◌}
use mathlib.Core.Bool.{Bool, not}
use mathlib.Core.List.{List, [], ◌∷◌, ◌++◌, map, map-append}
use lib.ListN.{length, get_or, set, drop, length-map}
use lib.Seq.{sets, drop-cons}
use lib.Dec.{eqb}
use Rattle.bus_clear.specs.declared.Pins.{Pins}
use Rattle.bus_clear.specs.declared.BusClear.{BusClear}
use Rattle.bus_clear.specs.declared.Answer.{Answer}
use Rattle.bus_clear.specs.declared.Answer.TheVariants as answer
use Rattle.bus_clear.specs.declared.Stepped.{Stepped}
use Rattle.bus_clear.specs.Pins.{Change, changes_of, change_byte, change_bytes}
use Rattle.bus_clear.specs.Clear.{step_of}
use Rattle.bus_clear.specs.Runs.{tape_of, made_by, made_in}
use Rattle.bus_clear.proofs.LawsRuns.{few_changes}

-- a list of no, one or two elements, by its length
none_of : (l : List ℕ) → length l ≡ 0 → l ≡ []
none_of [] e = refl
none_of (a ∷ l) e = absurd (omega arith)

one_of : (l : List ℕ) → length l ≡ 1 → l ≡ get_or l 0 0 ∷ []
one_of [] e = absurd (omega arith)
one_of (a ∷ l) e = rw (none_of l (omega arith))

two_of : (l : List ℕ) → length l ≡ 2 → l ≡ get_or l 0 0 ∷ get_or l 1 0 ∷ []
two_of [] e = absurd (omega arith)
two_of (a ∷ []) e = absurd (omega arith)
two_of (a ∷ b ∷ l) e = rw (none_of l (omega arith))

-- what one poll lays, by the number of its changes
module _ (memory : List ℕ) (at : ℕ) (p : Pins) where
  as_long : length (change_bytes p) ≡ length (changes_of p)
  as_long = simp length-map

  pub lays_none : length (changes_of p) ≡ 0 → memory ≡ sets memory at (change_bytes p)
  lays_none e = let none = none_of (change_bytes p) (as_long ∙ e) in rw none

  pub lays_one : length (changes_of p) ≡ 1 → set memory at (get_or (change_bytes p) 0 0) ≡ sets memory at (change_bytes p)
  lays_one e =
      sym (ap (sets memory at) (one_of (change_bytes p) (as_long ∙ e)))

  pub lays_two :
      (length (changes_of p) ≡ 0 → ⊥)
      → (length (changes_of p) ≡ 1 → ⊥)
      → (length (changes_of p) ≡ 2)
      × (set (set memory at (get_or (change_bytes p) 0 0)) (at + 1) (get_or (change_bytes p) 1 0) ≡ sets memory at (change_bytes p))
  lays_two none one =
      let two : length (changes_of p) ≡ 2 = omega (arith, few_changes p) in (
        two,
        rw add-one (sym (ap (sets memory at) (two_of (change_bytes p) (as_long ∙ two)))),
      )

-- one list after another
pub sets_append : (xs ys l : List ℕ) (i : ℕ) → sets (sets l i xs) (i + length xs) ys ≡ sets l i (xs ++ ys)
sets_append [] ys l i = rw add-zero
sets_append (x ∷ xs) ys l i =
    let next : i + suc (length xs) ≡ suc i + length xs = omega arith in rw next (sets_append xs ys (set l i x) (suc i))

-- the changes of the polls from the k-th on
module _ (pins : Bool) (clocks levels : List ℕ) (n : ℕ) where
  abbrev pub still_made : BusClear → ℕ → List Change
  still_made c k = made_in pins (n - k) (tape_of (drop k clocks) (drop k levels)) c

  pub all_made : (c : BusClear) → still_made c 0 ≡ made_in pins n (tape_of clocks levels) c
  all_made c = let all : n - 0 ≡ n = omega arith in rw all

  module _ (c : BusClear) (k : ℕ) where
    pub made_over : k ≡ n → still_made c k ≡ []
    unfolding made_in
    made_over e = let none : n - k ≡ 0 = omega arith in rw none

    pub made_next :
        k < n
        → k < length clocks
        → k < length levels
        → (r : Stepped)
        → r ≡ step_of c pins (get_or clocks k 0) (not (eqb (get_or levels k 0) 0))
        → still_made c k ≡ made_by r.answer ++ still_made r.next (k + 1)
    unfolding made_in tape_of
    made_next more g h r stepped =
        let one_more : n - k ≡ suc (n - (k + 1)) = omega arith in
        rw (one_more, drop-cons clocks k 0 g, drop-cons levels k 0 h, add-one, stepped)

-- one poll's changes, and then those of the polls after it
pub laid_next :
    (memory : List ℕ) (at : ℕ) (p : Pins) (cs ds : List Change)
    → changes_of p ≡ cs
    → sets (sets memory at (change_bytes p)) (at + length (changes_of p)) (map change_byte ds) ≡ sets memory at (map change_byte (cs ++ ds))
laid_next memory at p cs ds e =
    let as_long : length (map change_byte cs) ≡ length cs = simp length-map in
    rw (e, ← as_long, map-append change_byte cs ds) (sets_append (map change_byte cs) (map change_byte ds) memory at)

-- a poll that is not pending changes no pin
pub made_none : (a : Answer) → ((p : Pins) → a ≡ answer.Pending p → ⊥) → made_by a ≡ []
made_none answer.Ready h = refl
made_none (answer.Pending p) h = absurd (h p refl)
made_none answer.ClockRange h = refl
