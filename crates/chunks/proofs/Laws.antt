-- Laws of pieces, for citing: one rule of induction, in which the bound on their number is not seen, and how pieces unfold.
-- Assumes nothing.
use Prim.Native.Nat.{ℕ, zero, suc, ◌+◌, ◌-◌, ◌*◌, ◌/◌, ◌≤◌, ◌<◌}
use native.Mathlib.Nat.{div-mul-le_self, mul-le-mul_right}
use native.Mathlib.Omega.{arith}
use mathlib.Core.Path.{◌≡◌, refl, ap}
use mathlib.Core.List.{List, [], ◌∷◌}
use mathlib.Core.Bool.{Bool, true, false, cond}
use lib.Dec.{leb, ltb}
use borrow.Author.Tests.{le-leb, lt-leb, leb-true, leb-false, lt-ltb, le-ltb, ltb-true}
use Rattle.chunks.specs.Pieces.{piece_of, pieces_by, pieces, count_of, start_of}

-- the length of the next piece, case by case
module _ (c r : ℕ) where
  pub piece_small : r ≤ c → piece_of c r ≡ r
  unfolding piece_of
  piece_small h = rw (le-leb r c h)

  pub piece_near : c < r → r ≤ c + 2 → piece_of c r ≡ c - 2
  unfolding piece_of
  piece_near h k = rw (lt-leb r c h, le-leb r (c + 2) k)

  pub piece_far : c + 2 < r → piece_of c r ≡ c
  unfolding piece_of
  piece_far h = rw (lt-leb r c (omega arith), lt-leb r (c + 2) h)

module _ (c : ℕ) (four : 4 ≤ c) where
  module _
      (P : ℕ → List ℕ → Type 0)
      (small : (r : ℕ) → r ≤ c → P r (r ∷ []))
      (near : (r : ℕ) → c < r → r ≤ c + 2 → P r ((c - 2) ∷ (r - (c - 2)) ∷ []))
      (far : (r : ℕ) (ls : List ℕ) → c + 2 < r → P (r - c) ls → P r (c ∷ ls))
    where
      by_most : (most r : ℕ) → r ≤ most → P r (pieces_by c (suc most) r)
      unfolding pieces_by piece_of
      by_most zero r h = rw (le-leb r c (omega arith)) (small r (omega arith))
      by_most (suc most) r h = go (leb r c) refl (leb r (c + 2)) refl (by_most most (r - c))
        where
          go :
              (t : Bool)
              → leb r c ≡ t
              → (u : Bool)
              → leb r (c + 2) ≡ u
              → (r - c ≤ most → P (r - c) (pieces_by c (suc most) (r - c)))
              → P r (cond t r (cond u (c - 2) c) ∷ cond t [] (pieces_by c (suc most) (r - cond t r (cond u (c - 2) c))))
          go true e u d more = small r (leb-true r c e)
          go false e true d more =
              let a = leb-false r c e in
              let b = leb-true r (c + 2) d in
              rw (le-leb (r - (c - 2)) c (omega arith)) (near r a b)
          go false e false d more =
              let a = leb-false r (c + 2) d in
              far r _ a (more (omega arith))

      -- what holds of one piece, of the last two, and goes on by a full piece in front, holds of the pieces of every n
      pub pieces_by_lem : (n : ℕ) → P n (pieces c n)
      unfolding pieces
      pieces_by_lem n = by_most n n (omega arith)

  -- a larger bound changes nothing
  pieces_most : (n most : ℕ) → n ≤ most → pieces_by c (suc most) n ≡ pieces c n
  unfolding pieces_by piece_of
  pieces_most =
      pieces_by_lem (λ r ls. (most : ℕ) → r ≤ most → pieces_by c (suc most) r ≡ ls) (λ r h most l. rw (le-leb r c h)) near far
    where
      near : (r : ℕ) → c < r → r ≤ c + 2 → (most : ℕ) → r ≤ most → pieces_by c (suc most) r ≡ (c - 2) ∷ (r - (c - 2)) ∷ []
      near r h k zero l = absurd (omega arith)
      near r h k (suc most) l = rw (lt-leb r c h, le-leb r (c + 2) k, le-leb (r - (c - 2)) c (omega arith))

      far :
          (r : ℕ) (ls : List ℕ)
          → c + 2 < r
          → ((most : ℕ) → r - c ≤ most → pieces_by c (suc most) (r - c) ≡ ls)
          → (most : ℕ)
          → r ≤ most
          → pieces_by c (suc most) r ≡ c ∷ ls
      far r ls h e zero l = absurd (omega arith)
      far r ls h e (suc most) l =
          rw (lt-leb r c (omega arith), lt-leb r (c + 2) h) (ap (λ (x : List ℕ). c ∷ x) (e most (omega arith)))

  -- at most c bytes are one piece
  pub pieces_last : (n : ℕ) → n ≤ c → pieces c n ≡ n ∷ []
  unfolding pieces pieces_by piece_of
  pieces_last n h = rw (le-leb n c h)

  -- a piece that is not the last
  pub piece_bounds : (r : ℕ) → c < r → (2 ≤ piece_of c r) × (piece_of c r ≤ c)
  unfolding piece_of
  piece_bounds r h = rw (lt-leb r c h) (go (leb r (c + 2)))
    where
      go : (t : Bool) → (2 ≤ cond t (c - 2) c) × (cond t (c - 2) c ≤ c)
      go true = omega arith
      go false = omega arith

  -- more than c bytes: one piece, and the pieces of what is left
  pub pieces_more : (n : ℕ) → c < n → pieces c n ≡ piece_of c n ∷ pieces c (n - piece_of c n)
  unfolding pieces pieces_by
  pieces_more zero h = absurd (omega arith)
  pieces_more (suc n) h =
      rw (lt-leb (suc n) c h)
      (ap (λ (x : List ℕ). piece_of c (suc n) ∷ x)
      (pieces_most (suc n - piece_of c (suc n)) n (omega (arith, piece_bounds (suc n) h))))

-- where the j-th piece starts, case by case
module _ (c n j : ℕ) where
  pub start_past : count_of c n ≤ j → start_of c n j ≡ n
  unfolding start_of
  start_past h = rw (le-ltb j (count_of c n) h)

  pub start_inside : j < count_of c n → j * c ≤ n - 1
  unfolding count_of
  start_inside h =
      let full : j * c ≤ (n - 1) / c * c = mul-le-mul_right c (omega arith) in
      omega (arith, div-mul-le_self (n - 1) c)

  pub start_far : j < count_of c n → j * c + 2 < n → start_of c n j ≡ j * c
  unfolding start_of
  start_far h k = rw (lt-ltb j (count_of c n) h, lt-leb n (j * c + 2) k) (omega arith)

  pub start_near : j < count_of c n → n ≤ j * c + 2 → start_of c n j ≡ j * c - 2
  unfolding start_of
  start_near h k = rw (lt-ltb j (count_of c n) h, le-leb n (j * c + 2) k)

  -- no piece starts past the end
  pub start_most : start_of c n j ≤ n
  unfolding start_of
  start_most = go (ltb j (count_of c n)) refl
    where
      go : (t : Bool) → ltb j (count_of c n) ≡ t → cond t (j * c - cond (leb n (j * c + 2)) 2 0) n ≤ n
      go true e = omega (arith, start_inside (ltb-true j (count_of c n) e))
      go false e = omega arith

-- a piece takes no more than is left, and no more than a chunk
pub piece_most : (c r : ℕ) → (piece_of c r ≤ r) × (piece_of c r ≤ c)
unfolding piece_of
piece_most c r = go (leb r c) (leb r (c + 2)) refl where
  go : (small near : Bool) → leb r c ≡ small → (cond small r (cond near (c - 2) c) ≤ r) × (cond small r (cond near (c - 2) c) ≤ c)
  go true near e = omega (arith, leb-true r c e)
  go false true e = omega (arith, leb-false r c e)
  go false false e = omega (arith, leb-false r c e)
