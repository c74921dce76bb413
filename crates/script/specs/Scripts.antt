-- Which scripts are accepted, after 01, "Numbers of refusals": "Script order: 1; fewer than 3 bytes (5); 4; field above 4,096 (6);
-- field unequal to the bytes that follow (5); any bad record (5); read total (6)".
use Rattle.std.specs.Prelude.{ℕ, ◌+◌, ◌-◌, cond, not, List, [], ◌∷◌, length, drop, get_or, ltb, eqb, Result, Ok, Err}
use Rattle.std.proofs.Math.Option.{Option, none, some}
use Rattle.bus.specs.Operations.{Operation, write, read}
use Rattle.refusal.specs.declared.Refusal.{Refusal}
use Rattle.refusal.specs.declared.Refusal.TheVariants.{AddressInvalid, Version, Shape, Size}
use Rattle.script.specs.Records.{big_endian, records_of}

-- a script is the operations that it asks for, or it is refused
pub data Script : Type 0 where
  asks : List Operation → Script
  refused : Refusal → Script

unfoldable pub read_total : List Operation → ℕ
read_total [] = 0
read_total (write bytes ∷ os) = read_total os
read_total (read n ∷ os) = n + read_total os

abbrev pub most : ℕ
most = 4096

unfoldable pub body_of : Option (List Operation) → Script
body_of none = refused Shape
body_of (some os) = cond (ltb most (read_total os)) (refused Size) (asks os)

-- "bytes 1 and 2, big-endian, the body's length"
abbrev pub field_of : List ℕ → ℕ
field_of script = big_endian (get_or script 1 0) (get_or script 2 0)

unfoldable pub script_of : ℕ → List ℕ → Script
script_of address script =
    cond (ltb 127 address) (refused AddressInvalid)
    (cond (ltb (length script) 3) (refused Shape)
    (cond (not (eqb (get_or script 0 0) 1)) (refused Version)
    (cond (ltb most (field_of script)) (refused Size)
    (cond (not (eqb (field_of script) (length script - 3))) (refused Shape)
    (body_of (records_of (drop 3 script)))))))

-- what a caller is told
abbrev pub told_of : Script → Result ℕ Refusal
told_of (asks os) = Ok (read_total os)
told_of (refused r) = Err r
