-- Pin changes. The answer of a poll names those it makes; here is the list that each name stands for.
use Rattle.std.specs.Prelude.{ℕ, Bool, true, false, cond, List, [], ◌∷◌, map}
use Rattle.bus_clear.specs.declared.Pins.{Pins}
use Rattle.bus_clear.specs.declared.Pins.TheVariants.{Still, SclLow, SclHigh, SdaHigh, SdaLowSclHigh, SclHighSdaLow, SclLowSdaHigh, SclHighSdaHigh}

-- one change: a pin, and the level that it is set to. High is released: the pins are open-drain
pub data Change : Type 0 where
  scl : Bool → Change
  sda : Bool → Change

-- "The answer lists pin changes in order."
abbrev pub changes_of : Pins → List Change
changes_of Still = []
changes_of SclLow = scl false ∷ []
changes_of SclHigh = scl true ∷ []
changes_of SdaHigh = sda true ∷ []
changes_of SdaLowSclHigh = sda false ∷ scl true ∷ []
changes_of SclHighSdaLow = scl true ∷ sda false ∷ []
changes_of SclLowSdaHigh = scl false ∷ sda true ∷ []
changes_of SclHighSdaHigh = scl true ∷ sda true ∷ []

-- "Without pins it lists none"
abbrev pub listed_with : Bool → Pins → Pins
listed_with pins p = cond pins p Still

-- a change as a byte, for lent memory
abbrev pub change_byte : Change → ℕ
change_byte (scl false) = 0
change_byte (scl true) = 1
change_byte (sda false) = 2
change_byte (sda true) = 3

abbrev pub change_bytes : Pins → List ℕ
change_bytes p = map change_byte (changes_of p)
