-- Laws of a record that no call left: the script's refusals, then 5; and no number of a refusal is a success, goes ahead or is told of a list.
-- Assumes nothing.
use Prim.Native.Nat.{ℕ}
use mathlib.Core.Path.{◌≡◌, refl}
use mathlib.Core.Bool.{false}
use Rattle.refusal.specs.declared.Refusal.{Refusal}
use Rattle.refusal.specs.declared.Refusal.TheVariants.{AddressInvalid, ZeroLengthInvalid, FifoExceeded, Version, Shape, Size, Room, OutOfTurn, ClockRange, ListRefused}
use Rattle.refusal.specs.Numbers.{number_of}
use Rattle.script.specs.Scripts.{Script, asks, refused}
use Rattle.sitankulo.specs.Transactions.{number_in, succeeds, goes_ahead, foreign_refusal, foreign_number, tells}

pub foreign_told : (s : Script) → number_of (foreign_refusal s) ≡ foreign_number s
foreign_told (refused r) = refl
foreign_told (asks os) = refl

-- numbers of refusals
pub by_number :
    (P : ℕ → Type 0)
    → P 1 → P 2 → P 3 → P 4 → P 5 → P 6 → P 7 → P 12 → P 13 → P 14
    → (r : Refusal)
    → P (number_of r)
by_number P a b c d e f g h i j AddressInvalid = a
by_number P a b c d e f g h i j ZeroLengthInvalid = b
by_number P a b c d e f g h i j FifoExceeded = c
by_number P a b c d e f g h i j Version = d
by_number P a b c d e f g h i j Shape = e
by_number P a b c d e f g h i j Size = f
by_number P a b c d e f g h i j Room = g
by_number P a b c d e f g h i j OutOfTurn = h
by_number P a b c d e f g h i j ClockRange = i
by_number P a b c d e f g h i j ListRefused = j

pub unsuccessful : (r : Refusal) → succeeds (number_of r) ≡ false
unsuccessful = by_number (λ n. succeeds n ≡ false) refl refl refl refl refl refl refl refl refl refl

pub silent : (r : Refusal) → tells (number_in (number_of r)) ≡ false
silent = by_number (λ n. tells (number_in n) ≡ false) refl refl refl refl refl refl refl refl refl refl

pub halts : (r : Refusal) → goes_ahead (number_of r) ≡ false
halts = by_number (λ n. goes_ahead n ≡ false) refl refl refl refl refl refl refl refl refl refl
