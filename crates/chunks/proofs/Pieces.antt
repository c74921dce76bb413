-- What is promised of pieces, for every chunk size of at least 4 (at 3 the pieces of 5 would be 1, 1 and 3).
-- Assumes nothing.
use Prim.Native.Nat.{ℕ, zero, suc, ◌+◌, ◌-◌, ◌*◌, ◌/◌, ◌≤◌, ◌<◌}
use native.Mathlib.Nat.{div-eq_of_lt-le, add-div_right, zero-div, sub-zero, add-zero}
use native.Mathlib.Omega.{arith}
use mathlib.Core.Path.{◌≡◌, refl, sym, ap, ◌∙◌}
use mathlib.Core.List.{List, [], ◌∷◌}
use mathlib.Core.Bool.{Bool, true, false, cond}
use lib.ListN.{length, take, get_or}
use lib.Seq.{take_all}
use lib.Dec.{leb, ltb}
use borrow.Author.Tests.{le-leb, lt-leb, leb-true, leb-false, ltb-true, ltb-false}
use Rattle.chunks.specs.Pieces.{piece_of, pieces, sum, count_of, start_of}
use Rattle.chunks.proofs.Laws.{piece_small, piece_near, piece_far, pieces_by_lem, pieces_last}

-- P holds of each element
abbrev pub Each : (ℕ → Type 0) → List ℕ → Type 0
Each P [] = Unit {0}
Each P (x ∷ l) = P x × Each P l

module _ (c : ℕ) (four : 4 ≤ c) where
  -- a piece p of n bytes has its size: 1 to c, and 1 only where n is
  abbrev pub Sized : ℕ → ℕ → Type 0
  Sized n p = (1 ≤ p) × (p ≤ c) × (p ≡ 1 → n ≡ 1)

  -- they add up to n: no byte is lost, none is sent twice
  pub pieces_sum : (n : ℕ) → sum (pieces c n) ≡ n
  unfolding sum
  pieces_sum = pieces_by_lem c four (λ r ls. sum ls ≡ r) (λ r h. omega arith) (λ r h k. omega arith) (λ r ls h e. omega arith)

  -- each is of 1 to c bytes, and none is of a single byte unless n is 1
  pub pieces_bounds : (n : ℕ) → 1 ≤ n → Each (Sized n) (pieces c n)
  pieces_bounds =
      pieces_by_lem c four (λ r ls. 1 ≤ r → Each (Sized r) ls)
      (λ r h o. ((o, h, (λ e. e)), tt))
      (λ r h k o. ((omega arith, omega arith, (λ e. absurd (omega arith))), ((omega arith, omega arith, (λ e. absurd (omega arith))), tt)))
      (λ r ls h e o. ((omega arith, omega arith, (λ q. absurd (omega arith))), wider r ls h (e (omega arith))))
    where
      wider : (r : ℕ) (ls : List ℕ) → c + 2 < r → Each (Sized (r - c)) ls → Each (Sized r) ls
      wider r [] h e = tt
      wider r (p ∷ ls) h e =
          ((e.0.0, e.0.1, (λ q. absurd (let z = e.0.2 q in omega arith))), wider r ls h e.1)

  around : (n : ℕ) → 1 ≤ n → (n ≤ length (pieces c n) * c) × (length (pieces c n) * c < n + c)
  around =
      pieces_by_lem c four (λ r ls. 1 ≤ r → (r ≤ length ls * c) × (length ls * c < r + c))
      (λ r h o. omega arith) (λ r h k o. omega arith) (λ r ls h e o. let b = e (omega arith) in omega arith)

  -- how many they are: n / c, rounded up
  pub pieces_number : (n : ℕ) → 1 ≤ n → length (pieces c n) ≡ (n + c - 1) / c
  pieces_number n h = let b = around n h in sym (div-eq_of_lt-le c (omega arith) (omega arith))

  -- the quotient that the code works out is their number, also for no bytes
  pub pieces_count : (n : ℕ) → length (pieces c n) ≡ count_of c n
  unfolding count_of
  pieces_count zero = rw (pieces_last c four 0 (omega arith), zero-div c)
  pieces_count (suc n) =
      pieces_number (suc n) (omega arith) ∙ ap (λ (m : ℕ). m / c) (omega arith) ∙ add-div_right n (omega arith)
      ∙ ap (λ (m : ℕ). m / c + 1) (omega arith)

  abbrev Starts : ℕ → List ℕ → Type 0
  Starts r ls = (j : ℕ) → j < length ls → sum (take j ls) ≡ j * c - cond (leb r (j * c + 2)) 2 0

  starts_small : (r : ℕ) → r ≤ c → Starts r (r ∷ [])
  unfolding sum
  starts_small r h zero k = omega arith
  starts_small r h (suc j) k = absurd (omega arith)

  starts_near : (r : ℕ) → c < r → r ≤ c + 2 → Starts r ((c - 2) ∷ (r - (c - 2)) ∷ [])
  unfolding sum
  starts_near r h k zero l = omega arith
  starts_near r h k (suc zero) l = rw (le-leb r (1 * c + 2) (omega arith)) (omega arith)
  starts_near r h k (suc (suc j)) l = absurd (omega arith)

  starts_far : (r : ℕ) (ls : List ℕ) → c + 2 < r → Starts (r - c) ls → Starts r (c ∷ ls)
  unfolding sum
  starts_far r ls h e zero l = omega arith
  starts_far r ls h e (suc zero) l = rw (lt-leb r (1 * c + 2) (omega arith)) (omega arith)
  starts_far r ls h e (suc (suc i)) l = go (leb (r - c) (suc i * c + 2)) refl (e (suc i) (omega arith))
    where
      go :
          (t : Bool)
          → leb (r - c) (suc i * c + 2) ≡ t
          → sum (take (suc i) ls) ≡ suc i * c - cond t 2 0
          → c + sum (take (suc i) ls) ≡ suc (suc i) * c - cond (leb r (suc (suc i) * c + 2)) 2 0
      go true q d =
          let b = leb-true (r - c) (suc i * c + 2) q in rw (le-leb r (suc (suc i) * c + 2) (omega arith)) (omega arith)
      go false q d =
          let b = leb-false (r - c) (suc i * c + 2) q in rw (lt-leb r (suc (suc i) * c + 2) (omega arith)) (omega arith)

  -- the j-th starts after all bytes of those before it, and past the last all n are done
  pub pieces_start : (n j : ℕ) → sum (take j (pieces c n)) ≡ start_of c n j
  unfolding start_of
  pieces_start n j = go (ltb j (count_of c n)) refl
    where
      go : (t : Bool) → ltb j (count_of c n) ≡ t → sum (take j (pieces c n)) ≡ cond t (j * c - cond (leb n (j * c + 2)) 2 0) n
      go true e =
          let h = ltb-true j (count_of c n) e in
          pieces_by_lem c four Starts starts_small starts_near starts_far n j (omega (arith, pieces_count n))
      go false e =
          let h = ltb-false j (count_of c n) e in
          rw (take_all j (pieces c n) (omega (arith, pieces_count n))) (pieces_sum n)

  abbrev Cut : ℕ → List ℕ → Type 0
  Cut r ls = (j : ℕ) → j < length ls → get_or ls j 0 ≡ piece_of c (r - sum (take j ls))

  cut_small : (r : ℕ) → r ≤ c → Cut r (r ∷ [])
  unfolding sum
  cut_small r h zero k = rw (sub-zero, piece_small c r h)
  cut_small r h (suc j) k = absurd (omega arith)

  cut_near : (r : ℕ) → c < r → r ≤ c + 2 → Cut r ((c - 2) ∷ (r - (c - 2)) ∷ [])
  unfolding sum
  cut_near r h k zero l = rw (sub-zero, piece_near c r h k)
  cut_near r h k (suc zero) l = rw (add-zero, piece_small c (r - (c - 2)) (omega arith))
  cut_near r h k (suc (suc j)) l = absurd (omega arith)

  cut_far : (r : ℕ) (ls : List ℕ) → c + 2 < r → Cut (r - c) ls → Cut r (c ∷ ls)
  unfolding sum
  cut_far r ls h e zero l = rw (sub-zero, piece_far c r h)
  cut_far r ls h e (suc i) l =
      let left : r - c - sum (take i ls) ≡ r - (c + sum (take i ls)) = omega arith in
      e i (omega arith) ∙ ap (piece_of c) left

  -- the j-th is the next piece of what is left where it starts
  pub pieces_at : (n j : ℕ) → j < count_of c n → get_or (pieces c n) j 0 ≡ piece_of c (n - start_of c n j)
  pieces_at n j h =
      pieces_by_lem c four Cut cut_small cut_near cut_far n j (omega (arith, pieces_count n))
      ∙ ap (λ (s : ℕ). piece_of c (n - s)) (pieces_start n j)
