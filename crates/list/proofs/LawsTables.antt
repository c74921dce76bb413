-- Laws of what is set from the first place on, for citing.
-- Assumes nothing.
use Prim.Native.Nat.{ℕ, zero, suc, ◌+◌, ◌-◌, ◌≤◌, ◌<◌}
use native.Mathlib.Nat.{zero-sub, sub-zero, suc-sub-suc}
use native.Mathlib.Omega.{arith}
use mathlib.Core.Path.{◌≡◌, refl, sym, ap, ◌∙◌}
use mathlib.Core.List.{List, ◌++◌}
use lib.ListN.{length, take, drop, set, replicate, length-append, length-replicate, length-set}
use borrow.Rule.Slice.PartMut.{put_mid}
use Rattle.std.proofs.lemmas.List.{drop-drop, drop-set-lt, drop_at, take_at, append_assoc, length-take-le, length-take, take-append-drop}
use Rattle.list.specs.Lists.{padded}
use Rattle.list.specs.Tables.{Filled}

drop_replicate : (k n a : ℕ) → drop k (replicate n a) ≡ replicate (n - k) a
drop_replicate zero n a = rw sub-zero
drop_replicate (suc k) zero a = rw zero-sub
drop_replicate (suc k) (suc n) a = rw suc-sub-suc (drop_replicate k n a)

length_padded : (size : ℕ) (l : List ℕ) → length l ≤ size → length (padded size l) ≡ size
unfolding padded
length_padded size l h = rw (length-append, length-replicate) (omega arith)

filled_if :
    (size n : ℕ) (cells : List ℕ)
    → length cells ≡ size
    → n ≤ size
    → drop n cells ≡ replicate (size - n) 0
    → Filled size n cells
unfolding padded
filled_if size n cells whole h unused = record {
  within = h;
  unused = rw (length-take-le n cells (omega arith), ← unused) (sym (take-append-drop n cells));
}

module _ (size n : ℕ) (cells : List ℕ) (filled : Filled size n cells) where
  whole : length cells ≡ size
  whole = ap length filled.unused ∙ length_padded size (take n cells) (omega (arith, length-take n cells, filled.within))

  pub length_filled : length (take n cells) ≡ n
  length_filled = length-take-le n cells (omega (arith, whole, filled.within))

  -- past the cell that is filled next nothing is set
  later : drop (n + 1) cells ≡ replicate (size - (n + 1)) 0
  unfolding padded
  later =
      let left : size - n - 1 ≡ size - (n + 1) = omega arith in
      let unset = ap (drop n) filled.unused ∙ drop_at (take n cells) _ n length_filled in
      sym (drop-drop 1 n cells) ∙ ap (drop 1) unset ∙ rw (length_filled, drop_replicate, left)

  pub filled_set : (x : ℕ) → n < size → Filled size (n + 1) (set cells n x)
  filled_set x h =
      filled_if _ _ _ (length-set cells n x ∙ whole) (omega arith) (drop-set-lt (n + 1) cells n x (omega arith) ∙ later)

-- what is copied over zeros, one list after another
pub put_padded :
    (size m : ℕ) (xs ys : List ℕ)
    → m ≡ length xs + length ys
    → put_mid (length xs) (m - length xs) (xs ++ drop (length xs) (replicate size 0)) ys ≡ padded size (xs ++ ys)
unfolding padded
put_padded size m xs ys e =
    let n = length xs in
    let zeros : List ℕ = replicate size 0 in
    let past : n + (m - n) ≡ m = omega arith in
    let left : m ≡ length (xs ++ ys) = e ∙ sym (length-append xs ys) in
    rw (
      take_at xs (drop n zeros) n refl,
      drop_at xs (drop n zeros) n refl,
      drop-drop (m - n) n zeros,
      past,
      drop_replicate m size 0,
      left,
    )
    (sym (append_assoc xs ys _))
