-- The names of refusals as text, after 01, "Numbers of refusals".
use Rattle.std.specs.Prelude.{ℕ, List, codes}
use Rattle.refusal.specs.declared.Refusal.{Refusal}
use Rattle.refusal.specs.declared.Refusal.TheVariants.{AddressInvalid, ZeroLengthInvalid, FifoExceeded, Version, Shape, Size, Room, OutOfTurn, ClockRange, ListRefused}

abbrev pub name_of : Refusal → List ℕ
name_of AddressInvalid = codes "AddressInvalid"
name_of ZeroLengthInvalid = codes "ZeroLengthInvalid"
name_of FifoExceeded = codes "FifoExceeded"
name_of Version = codes "Version"
name_of Shape = codes "Shape"
name_of Size = codes "Size"
name_of Room = codes "Room"
name_of OutOfTurn = codes "OutOfTurn"
name_of ClockRange = codes "ClockRange"
name_of ListRefused = codes "ListRefused"
