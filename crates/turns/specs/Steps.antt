-- The steps of a transaction, after 01, "Scripts and transactions": each piece of each kept operation with its flags. The first argument
-- is the chunk size: 31 in the base.
use Rattle.std.specs.Prelude.{ℕ, Bool, true, false, not, ◌&&◌, ◌||◌, List, [], ◌∷◌, ◌++◌, length, take, drop}
use Rattle.bus.specs.Events.{Direction, to_sensor, from_sensor}
use Rattle.bus.specs.Operations.{Operation, write, read}
use Rattle.chunks.specs.Pieces.{pieces}

-- a write of bytes: does it start, does it stop; a read of so many: does it start, stop, continue
pub data Step : Type 0 where
  write_step : List ℕ → Bool → Bool → Step
  read_step : ℕ → Bool → Bool → Bool → Step

-- what stands before an operation: none, or one of this direction
pub data Before : Type 0 where
  nothing : Before
  after : Direction → Before

-- "An operation starts if the one before it is not of its kind"
abbrev pub starts : Before → Direction → Bool
starts nothing d = true
starts (after to_sensor) to_sensor = false
starts (after to_sensor) from_sensor = true
starts (after from_sensor) to_sensor = true
starts (after from_sensor) from_sensor = false

abbrev pub is_empty : {A : Type 0} → List A → Bool
is_empty [] = true
is_empty (a ∷ l) = false

-- "a read continues if a read follows"
abbrev pub read_follows : List Operation → Bool
read_follows [] = false
read_follows (write bytes ∷ os) = false
read_follows (read n ∷ os) = true

-- "Only the first piece starts, only the last stops"
unfoldable pub write_steps : List ℕ → List ℕ → Bool → Bool → List Step
write_steps [] bytes start stop = []
write_steps (n ∷ ns) bytes start stop = write_step (take n bytes) start (is_empty ns && stop) ∷ write_steps ns (drop n bytes) false stop

-- "a read piece continues unless last of an operation that doesn't"
unfoldable pub read_steps : List ℕ → Bool → Bool → Bool → List Step
read_steps [] start stop continues = []
read_steps (n ∷ ns) start stop continues =
    read_step n start (is_empty ns && stop) (not (is_empty ns) || continues) ∷ read_steps ns false stop continues

-- an operation "stops if it is last"
unfoldable pub steps_from : ℕ → Before → List Operation → List Step
steps_from c before [] = []
steps_from c before (write bytes ∷ os) =
    write_steps (pieces c (length bytes)) bytes (starts before to_sensor) (is_empty os) ++ steps_from c (after to_sensor) os
steps_from c before (read n ∷ os) =
    read_steps (pieces c n) (starts before from_sensor) (is_empty os) (read_follows os) ++ steps_from c (after from_sensor) os
