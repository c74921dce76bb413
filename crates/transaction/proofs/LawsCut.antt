-- Laws of an operation that is one piece.
-- Assumes nothing.
use Prim.Native.Nat.{ℕ, ◌+◌, ◌-◌, ◌≤◌, ◌<◌}
use native.Mathlib.Nat.{div-eq_of_lt, sub-zero}
use native.Mathlib.Omega.{arith}
use mathlib.Core.Path.{◌≡◌, refl}
use lib.Dec.{eqb}
use borrow.Author.Tests.{le-leb}
use Rattle.chunks.specs.Pieces.{piece_of, count_of, start_of}
use Rattle.transaction.specs.declared.walk.Flags.{Flags}
use Rattle.transaction.specs.Walk.{piece_flags}

none_left : (m : ℕ) → 0 ≡ 0 - m
none_left m = omega arith

module _ (n at : ℕ) (short : n ≤ 31) (place : at < count_of 31 n) where
  one : count_of 31 n ≡ 1
  unfolding count_of
  one = let none : n - 1 < 31 = omega arith in rw (div-eq_of_lt none)

  first : at ≡ 0
  first = omega (arith, one)

  pub only_start : 0 ≡ start_of 31 n at
  unfolding start_of
  only_start = rw (first, one) (none_left _)

  pub only_size : n ≡ piece_of 31 (n - 0)
  unfolding piece_of
  only_size = rw (sub-zero, le-leb n 31 short)

  pub only_flags : (flags : Flags) → flags ≡ piece_flags flags (eqb at 0) (eqb (at + 1) (count_of 31 n))
  only_flags flags = rw (one, first) refl
