-- The numbers that calls answer, after include/sitankulo.h.
use Rattle.std.specs.Prelude.{ℕ, ◌+◌, ◌*◌, Bool, cond, not, List, eqb, Result, Ok, Err}
use Rattle.std.proofs.Math.Seq.{paste}
use Rattle.refusal.specs.declared.Refusal.{Refusal}
use Rattle.refusal.specs.Numbers.{number_of}
use Rattle.refusal.specs.declared.Refusal.TheVariants.{Shape, Room, ClockRange, ListRefused}

-- "bits 0 to 7: 0, a code below, or a refusal", "bits 8 to 15: what the call says of its answer"
abbrev pub packed : ℕ → ℕ → ℕ
packed number detail = number + 256 * detail

-- a call's answer, or its refusal by number
abbrev pub told : Result ℕ Refusal → ℕ
told (Ok answer) = answer
told (Err r) = number_of r

-- refusals that the calls themselves give
abbrev pub shape : ℕ
shape = number_of Shape

abbrev pub room : ℕ
room = number_of Room

abbrev pub clock_range : ℕ
clock_range = number_of ClockRange

abbrev pub list_refused : ℕ
list_refused = number_of ListRefused

-- answers that are no refusals
abbrev pub none_left : ℕ
none_left = 254

abbrev pub pending : ℕ
pending = 255

-- "A flag is a byte: 0 is no, any other value is yes."
abbrev pub yes : ℕ → Bool
yes flag = not (eqb flag 0)

-- lent memory at exit: the first n of the bytes in front, "bytes beyond stay as they are"; "a refused call writes no byte anywhere"
abbrev pub written : Bool → List ℕ → ℕ → List ℕ → List ℕ
written done bytes n old = cond done (paste old 0 bytes n) old
