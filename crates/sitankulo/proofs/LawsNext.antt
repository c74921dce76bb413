-- Laws of the next list from C: what it comes to where there is a list, without room for it and with.
-- Assumes nothing.
use Rattle.std.specs.Prelude.{Ok, Err}
use Rattle.refusal.specs.declared.Refusal.{Refusal}
use Rattle.refusal.specs.declared.Refusal.TheVariants.{Room}
use Rattle.refusal.specs.Numbers.{number_of}
use Prim.Native.Nat.{ℕ, ◌*◌, ◌%◌, ◌≤◌}
use native.Mathlib.Nat.{mul-mod_right}
use native.Mathlib.Omega.{arith}
use mathlib.Core.Path.{◌≡◌, refl, sym, subst, ◌∙◌}
use mathlib.Core.Bool.{Bool, true, false}
use mathlib.Core.List.{List}
use lib.ListN.{length}
use lib.Dec.{leb}
use borrow.Author.Tests.{lt-ltb, le-ltb, leb-true, leb-false, eq-eqb}
use Rattle.script.specs.Scripts.{Script}
use Rattle.transaction.specs.declared.Handed.{Handed}
use Rattle.transaction.specs.Numbers.{next_number}
use Rattle.sitankulo.specs.Answers.{packed}
use Rattle.sitankulo.specs.Lists.{LaidOut}
use Rattle.sitankulo.specs.Records.{is_record}
use Rattle.sitankulo.specs.Transactions.{succeeds, renewed, list_answer, next_answer, NextLeft}

counted : (n : ℕ) → succeeds (256 * n) ≡ true
counted n = eq-eqb (256 * n % 256) 0 (mul-mod_right 256 n)

module _ (kind : ℕ) (state : List ℕ) (script : Script) (h : Handed) (words fifo : List ℕ) where
  abbrev Hands : Handed → ℕ → List ℕ → List ℕ → List ℕ → Type 0
  Hands x r s w f = NextLeft kind script x r state s words w fifo f

  module _ (known : kind ≤ 2) where
    module _ (is : is_record state ≡ true) (made : Handed) (e : made ≡ h) (n : ℕ) (told : n ≡ next_number made.answer) where
      -- what holds of what was handed out holds of its definition
      handed : {r : ℕ} (s w f : List ℕ) → Hands made r s w f → Hands h r s w f
      handed {r} s w f = subst (λ (x : Handed). Hands x r s w f) e

      module _ (z : n ≡ 0) where
        listing : next_answer kind state script made (length words) (length fifo) ≡ list_answer made.list (length words) (length fifo)
        unfolding next_answer
        listing = rw (le-ltb 2 kind known, is, eq-eqb (next_number made.answer) 0 (sym told ∙ z))

        pub next_unlaid :
            (r : Refusal) (w f : List ℕ)
            → LaidOut made.list (Err r) words w fifo f
            → Hands h (number_of r) state w f
        unfolding list_answer
        next_unlaid r w f l = handed state w f (go (leb 32 (length words)) (leb made.list.count (length fifo)) refl refl) where
          go :
              (t u : Bool)
              → leb 32 (length words) ≡ t
              → leb made.list.count (length fifo) ≡ u
              → Hands made (number_of r) state w f
          go true true e-t e-u = absurd (let z = rw (e-t, e-u) at l.0 in cc)
          go true false e-t e-u =
              let z = rw (e-t, e-u) at l.0 in
              let r-is : r ≡ Room = cc in
              rw (r-is, listing, le-ltb (length words) 32 (leb-true 32 _ e-t), lt-ltb (length fifo) _ (leb-false _ _ e-u)) (
                refl,
                refl,
                l.1 ∙ rw (e-t, e-u),
                l.2 ∙ rw (e-t, e-u),
              )
          go false u e-t e-u =
              let z = rw e-t at l.0 in
              let r-is : r ≡ Room = cc in
              rw (r-is, listing, lt-ltb (length words) 32 (leb-false 32 _ e-t)) (refl, refl, l.1 ∙ rw e-t, l.2 ∙ rw e-t)

        pub next_laid :
            (d : ℕ) (s w f : List ℕ)
            → s ≡ renewed state made.progress
            → LaidOut made.list (Ok d) words w fifo f
            → Hands h d s w f
        unfolding list_answer
        next_laid d s w f e l = handed s w f (go (leb 32 (length words)) (leb made.list.count (length fifo)) refl refl) where
          go :
              (t u : Bool)
              → leb 32 (length words) ≡ t
              → leb made.list.count (length fifo) ≡ u
              → Hands made d s w f
          go true true e-t e-u =
              let z = rw (e-t, e-u) at l.0 in
              let said : d ≡ packed 0 made.list.count = cc in
              let d-is : d ≡ 256 * made.list.count = omega (arith, said) in
              rw (d-is, listing, counted made.list.count, le-ltb (length words) 32 (leb-true 32 _ e-t), le-ltb (length fifo) _ (leb-true _ _ e-u)) (
                refl,
                e,
                l.1 ∙ rw (e-t, e-u),
                l.2 ∙ rw (e-t, e-u),
              )
          go true false e-t e-u = absurd (let z = rw (e-t, e-u) at l.0 in cc)
          go false u e-t e-u = absurd (let z = rw e-t at l.0 in cc)
