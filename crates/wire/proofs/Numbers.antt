-- What is written in bytes is read back.
-- Assumes nothing.
use Prim.Native.Nat.{ℕ, ◌+◌, ◌*◌, ◌/◌, ◌%◌, ◌<◌}
use native.Mathlib.Nat.{add-zero, div-div-eq-div-mul, div-add-mod, mod-eq_of_lt, mod-lt}
use native.Mathlib.Omega.{arith}
use mathlib.Core.Path.{◌≡◌, sym, ap, ◌∙◌}
use mathlib.Core.List.{List, ◌++◌, append_assoc}
use lib.ListN.{length, get_or, length-append}
use lib.Seq.{get_or-append-add}
use Rattle.wire.specs.Numbers.{four_bytes, time_bytes, word_at, time_at}

-- a number of four bytes, byte by byte
four_back : (w : ℕ) → w < 0x100000000 → w / 0x1000000 % 256 * 0x1000000 + w / 0x10000 % 256 * 0x10000 + w / 0x100 % 256 * 0x100 + w % 256 ≡ w
four_back w h =
    let a = w / 256 in
    let b = a / 256 in
    let c = b / 256 in
    let second : w / 0x10000 ≡ b = sym (div-div-eq-div-mul w 256 256) in
    let first : w / 0x1000000 ≡ c = sym (div-div-eq-div-mul w 0x10000 256) ∙ ap (λ (m : ℕ). m / 256) second in
    let small : c < 256 = omega (arith, div-add-mod w 256, div-add-mod a 256, div-add-mod b 256) in
    rw (first, second, mod-eq_of_lt small) (omega (arith, div-add-mod w 256, div-add-mod a 256, div-add-mod b 256))

module _ (l : List ℕ) where
  pub word_returns : (w : ℕ) (r : List ℕ) → w < 0x100000000 → word_at (l ++ (four_bytes w ++ r)) (length l) ≡ w
  unfolding word_at
  word_returns w r h =
      let rest = four_bytes w ++ r in
      let zeroth : get_or (l ++ rest) (length l) 0 ≡ w / 0x1000000 % 256 = rw add-zero at (get_or-append-add l rest 0 0) in
      rw (zeroth, get_or-append-add l rest 1 0, get_or-append-add l rest 2 0, get_or-append-add l rest 3 0) (four_back w h)

pub time_returns : (l : List ℕ) (t : ℕ) (r : List ℕ) → t < 0x10000000000000000 → time_at (l ++ (time_bytes t ++ r)) (length l) ≡ t
unfolding time_at
time_returns l t r h =
    let high = t / 0x100000000 in
    let low = t % 0x100000000 in
    let whole = div-add-mod t 0x100000000 in
    let front = word_returns l high (four_bytes low ++ r) (omega (arith, whole)) in
    let place : length (l ++ four_bytes high) ≡ length l + 4 = length-append l (four_bytes high) in
    let back : word_at (l ++ (time_bytes t ++ r)) (length l + 4) ≡ low =
    rw (append_assoc l (four_bytes high) (four_bytes low ++ r), place) at
    (word_returns (l ++ four_bytes high) low r (mod-lt t (omega arith))) in
    rw (front, back) (omega (arith, whole))
