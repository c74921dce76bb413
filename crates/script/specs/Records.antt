-- The records of a script, after 01, "Scripts and transactions": by structure on the bytes.
use Rattle.std.specs.Prelude.{ℕ, zero, suc, ◌+◌, ◌*◌, cond, List, [], ◌∷◌, length, take, drop, eqb, leb}
use Rattle.std.proofs.Math.Option.{Option, none, some, map}
use Rattle.bus.specs.Operations.{Operation, write, read}
use Rattle.script.specs.declared.Record.{Record}
use Rattle.script.specs.declared.Record.TheVariants.{Write, Read, Bad, End}
use Rattle.script.specs.declared.Step.{Step}

abbrev pub big_endian : ℕ → ℕ → ℕ
big_endian high low = high * 256 + low

-- "Each record: two bytes big-endian length, kind (0 write, 1 read), and for a write that many bytes. A record cut short or another
-- kind is bad." The first number counts the bytes of the record at hand that are still to come.
unfoldable pub operations_from : ℕ → List ℕ → Option (List Operation)
operations_from zero [] = some []
operations_from (suc due) [] = none
operations_from (suc due) (b ∷ bytes) = operations_from due bytes
operations_from zero (high ∷ []) = none
operations_from zero (high ∷ low ∷ []) = none
operations_from zero (high ∷ low ∷ kind ∷ rest) =
    cond (eqb kind 0)
    (map (λ (os : List Operation). write (take (big_endian high low) rest) ∷ os) (operations_from (big_endian high low) rest))
    (cond (eqb kind 1)
    (map (λ (os : List Operation). read (big_endian high low) ∷ os) (operations_from zero rest))
    none)

abbrev pub records_of : List ℕ → Option (List Operation)
records_of bytes = operations_from 0 bytes

-- what stands in front
unfoldable pub record_of : List ℕ → Record
record_of [] = End
record_of (high ∷ []) = Bad
record_of (high ∷ low ∷ []) = Bad
record_of (high ∷ low ∷ kind ∷ rest) =
    cond (eqb kind 0) (cond (leb (big_endian high low) (length rest)) (Write (big_endian high low)) Bad)
    (cond (eqb kind 1) (Read (big_endian high low)) Bad)

-- how many bytes it takes
abbrev pub record_size : Record → ℕ
record_size (Write n) = 3 + n
record_size (Read n) = 3
record_size Bad = 0
record_size End = 0

unfoldable pub record_at : List ℕ → ℕ → Step
record_at script at = record { found = record_of (drop at script); next = at + record_size (record_of (drop at script)) }
