-- The numbers of refusals, after 01, "Numbers of refusals".
use Rattle.std.specs.Prelude.{ℕ, Result, Ok, Err}
use Rattle.refusal.specs.declared.Refusal.{Refusal}
use Rattle.refusal.specs.declared.Refusal.TheVariants.{AddressInvalid, ZeroLengthInvalid, FifoExceeded, Version, Shape, Size, Room, OutOfTurn, ClockRange, ListRefused}

abbrev pub number_of : Refusal → ℕ
number_of AddressInvalid = 1
number_of ZeroLengthInvalid = 2
number_of FifoExceeded = 3
number_of Version = 4
number_of Shape = 5
number_of Size = 6
number_of Room = 7
number_of OutOfTurn = 12
number_of ClockRange = 13
number_of ListRefused = 14

-- the number of an answer, whose own number is told by the first argument, or of the refusal in its place
abbrev pub number_or : {A : Type 0} → (A → ℕ) → Result A Refusal → ℕ
number_or number (Ok answer) = number answer
number_or number (Err r) = number_of r
