-- The numbers of refusals, as document 01 lists them.
-- Assumes nothing.
use mathlib.Core.Path.{◌≡◌, refl}
use mathlib.Core.List.{[], ◌∷◌, map}
use Rattle.refusal.specs.declared.Refusal.TheVariants.{AddressInvalid, ZeroLengthInvalid, FifoExceeded, Version, Shape, Size, Room, OutOfTurn, ClockRange, ListRefused}
use Rattle.refusal.specs.Numbers.{number_of}

pub numbers_of_refusals :
    map number_of (AddressInvalid ∷ ZeroLengthInvalid ∷ FifoExceeded ∷ Version ∷ Shape ∷ Size ∷ Room ∷ OutOfTurn ∷ ClockRange ∷ ListRefused ∷ [])
    ≡ 1 ∷ 2 ∷ 3 ∷ 4 ∷ 5 ∷ 6 ∷ 7 ∷ 12 ∷ 13 ∷ 14 ∷ []
numbers_of_refusals = refl
