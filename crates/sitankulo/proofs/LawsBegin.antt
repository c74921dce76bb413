-- Laws of begin from C: what each way through it comes to.
-- Assumes nothing.
use Prim.Native.Nat.{ℕ, ◌≤◌, ◌<◌}
use mathlib.Core.Path.{◌≡◌, refl, ap, ◌∙◌}
use mathlib.Core.Bool.{Bool, true, false, cond, ◌||◌}
use mathlib.Core.List.{List}
use lib.ListN.{length}
use lib.Dec.{eqb}
use borrow.Author.Tests.{lt-ltb, le-ltb}
use Rattle.transaction.specs.declared.Beginning.{Beginning}
use Rattle.transaction.specs.declared.Beginning.TheVariants.{Ready, ClearFirst}
use Rattle.transaction.specs.declared.Begun.{Begun}
use Rattle.transaction.specs.declared.Abandonment.{Abandonment}
use Rattle.transaction.specs.declared.Abandonment.TheVariants.{Quiet, ResetAndClear}
use Rattle.transaction.specs.Numbers.{beginning_number, begin_number, abandonment_number}
use Rattle.sitankulo.specs.Transactions.{goes_ahead, roomless, begin_answer, BeginLeft}

-- each beginning goes ahead, and each giving up
pub starts : (b : Beginning) → goes_ahead (beginning_number b) ≡ true
starts Ready = refl
starts ClearFirst = refl

pub gives_up : (a : Abandonment) → goes_ahead (abandonment_number a) ≡ true
gives_up Quiet = refl
gives_up ResetAndClear = refl

-- a record without room is never written
pub roomless_stays : (m : ℕ) → goes_ahead (roomless m) ≡ false
roomless_stays m = go (goes_ahead m) refl (eqb m 13) where
  go : (t : Bool) → goes_ahead m ≡ t → (u : Bool) → goes_ahead (cond (t || u) 7 m) ≡ false
  go true q u = refl
  go false q true = refl
  go false q false = q

module _ (kind : ℕ) (state : List ℕ) (b made : Begun) (e : made ≡ b) (n : ℕ) (told : n ≡ begin_number made.answer) where
  abbrev Begins : ℕ → List ℕ → Type 0
  Begins r after = BeginLeft kind b r state after

  number : n ≡ begin_number b.answer
  number = told ∙ ap (λ (x : Begun). begin_number x.answer) e

  module _ (known : kind ≤ 2) where
    pub begin_roomless : length state < 25 → (r : ℕ) → r ≡ roomless n → Begins r state
    unfolding begin_answer
    begin_roomless short r q =
        rw (q, roomless_stays n, le-ltb 2 kind known, lt-ltb (length state) 25 short, number) (refl, refl)

    module _ (long : 25 ≤ length state) where
      pub begin_stays : goes_ahead n ≡ false → Begins n state
      unfolding begin_answer
      begin_stays q = rw (q, le-ltb 2 kind known, le-ltb (length state) 25 long) (number, refl)
