-- Laws of numbers in byte slices, for citing.
-- Assumes nothing.
use Prim.Native.Nat.{ℕ, ◌+◌, ◌-◌, ◌*◌, ◌≤◌, ◌<◌}
use native.Mathlib.Nat.{zero-add, zero-mul, suc-mul}
use native.Mathlib.Numerals.{add-one}
use native.Mathlib.Omega.{arith}
use mathlib.Core.Path.{◌≡◌, refl, sym, ap, ◌∙◌}
use mathlib.Core.Bool.{cond}
use mathlib.Core.List.{List, [], ◌∷◌, ◌++◌}
use lib.ListN.{length, take, set, get_or, replicate, length-append}
use lib.Dec.{leb}
use lib.Seq.{paste, paste-suc}
use borrow.Author.Tests.{le-leb}
use Rattle.std.proofs.lemmas.List.{take_more, length-take-le, append_assoc, append-nil}
use Rattle.std.proofs.lemmas.List.Edits.{paste-paste}
use Rattle.std.proofs.lemmas.Slice.{put_mid-paste}
use borrow.Rule.Slice.PartMut.{put_mid}
use Rattle.wire.specs.Numbers.{laid, time_at, words_of}

-- numbers one after another, each of so many bytes
module _ (bytes : ℕ → List ℕ) (size : ℕ) (sized : (n : ℕ) → length (bytes n) ≡ size) where
  pub laid_size : (ns : List ℕ) → length (laid bytes ns) ≡ length ns * size
  unfolding laid
  laid_size [] = sym (zero-mul size)
  laid_size (n ∷ ns) =
      length-append (bytes n) (laid bytes ns) ∙ rw (sized n, laid_size ns, suc-mul (length ns) size) (omega arith)

  laid_behind : (ns : List ℕ) (n : ℕ) → laid bytes (ns ++ n ∷ []) ≡ laid bytes ns ++ bytes n
  unfolding laid
  laid_behind [] n = append-nil (bytes n)
  laid_behind (m ∷ ns) n = ap (λ (s : List ℕ). bytes m ++ s) (laid_behind ns n) ∙ sym (append_assoc (bytes m) (laid bytes ns) (bytes n))

  -- one number more is put behind those that are there
  pub laid_more :
      (ns d l ys : List ℕ) (i : ℕ)
      → i < length ns
      → ys ≡ bytes (get_or ns i 0)
      → l ≡ paste d 0 (laid bytes (take i ns)) (i * size)
      → put_mid (i * size) ((i + 1) * size - i * size) l ys ≡ paste d 0 (laid bytes (take (i + 1) ns)) ((i + 1) * size)
  laid_more ns d l ys i h here before =
      let further : (i + 1) * size ≡ i * size + size = rw (add-one i, suc-mul i size) (omega arith) in
      let behind : laid bytes (take (i + 1) ns) ≡ laid bytes (take i ns) ++ bytes (get_or ns i 0) =
      ap (laid bytes) (take_more ns i 0 h) ∙ laid_behind (take i ns) (get_or ns i 0) in
      let front : i * size ≡ length (laid bytes (take i ns)) =
      ap (λ (n : ℕ). n * size) (sym (length-take-le i ns (omega arith))) ∙ sym (laid_size (take i ns)) in
      put_mid-paste (i * size) ((i + 1) * size - i * size) l ys (bytes (get_or ns i 0)) size here (omega (arith, further)) (sym (sized _))
      ∙ ap (λ (s : List ℕ). paste s (i * size) (bytes (get_or ns i 0)) size) before
      ∙ ap (λ (j : ℕ). paste (paste d 0 (laid bytes (take i ns)) (i * size)) j (bytes (get_or ns i 0)) size) (sym (zero-add (i * size)))
      ∙ paste-paste d 0 (laid bytes (take i ns)) (bytes (get_or ns i 0)) (i * size) size front (sym (sized _)) (omega arith)
      ∙ rw (behind, further) refl

-- one byte more is copied
pub copied :
    (d r out : List ℕ) (i : ℕ)
    → i < length d
    → i < length r
    → out ≡ paste d 0 r i
    → set out i (get_or r i 0) ≡ paste d 0 r (i + 1)
copied d r out i h k e =
    ap (λ (l : List ℕ). set l i (get_or r i 0)) e
    ∙ ap (λ (j : ℕ). set (paste d 0 r i) j (get_or r i 0)) (sym (zero-add i))
    ∙ paste-suc d 0 r i 0 (rw (zero-add i) h) k
    ∙ ap (paste d 0 r) (sym (add-one i))

-- what is read where there are so many bytes
pub time_there : (l : List ℕ) (at t : ℕ) → at + 8 ≤ length l → t ≡ cond (leb (at + 8) (length l)) (time_at l at) 0 → t ≡ time_at l at
time_there l at t h e = e ∙ rw (le-leb (at + 8) (length l) h)

pub words_there : (l words : List ℕ) → 32 ≤ length l → words ≡ cond (leb 32 (length l)) (words_of l) (replicate 8 0) → words ≡ words_of l
words_there l words h e = e ∙ rw (le-leb 32 (length l) h)
