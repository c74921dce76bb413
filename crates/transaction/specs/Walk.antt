-- How a walk over a script's records finds its place: what the private functions of `walk` say to each other.
use Rattle.std.specs.Prelude.{ℕ, ◌+◌, ◌-◌, ◌≤◌, ◌<◌, ◌≡◌, Bool, true, false, not, ◌&&◌, ◌||◌, List, [], ◌∷◌, length, take, drop, Option, None, Some, is_none, Ok}
use Rattle.std.proofs.Math.Option as maybe
use Rattle.bus.specs.Events.{Direction, to_sensor, from_sensor}
use Rattle.bus.specs.Operations.{Operation, write, read, kept}
use Rattle.chunks.specs.Pieces.{pieces}
use Rattle.script.specs.Records.{records_of}
use Rattle.list.specs.declared.Answer.TheVariants.{NoList}
use Rattle.list.specs.declared.CommandList.{CommandList}
use Rattle.list.specs.Lists.{unlisted, write_step_of, read_step_of}
use Rattle.turns.specs.Steps.{Step, write_step, read_step, Before, nothing, after, starts, write_steps, read_steps, steps_from}
use Rattle.turns.specs.Turns.{Turn, turn, over, beyond, with_list, turn_at}
use Rattle.transaction.specs.declared.walk.Kind.{Kind}
use Rattle.transaction.specs.declared.walk.Kind.TheVariants as kind
use Rattle.transaction.specs.declared.walk.Kept.{Kept}
use Rattle.transaction.specs.declared.walk.Flags.{Flags}
use Rattle.transaction.specs.declared.walk.Found.{Found}
use Rattle.transaction.specs.declared.walk.Found.TheVariants.{Write, Read, Over, Beyond}

abbrev pub direction_of : Kind → Direction
direction_of kind.Write = to_sensor
direction_of kind.Read = from_sensor

abbrev pub before_of : Option Kind → Before
before_of None = nothing
before_of (Some k) = after (direction_of k)

-- no record is bad
abbrev pub is_readable : maybe.Option (List Operation) → Bool
is_readable maybe.none = false
is_readable (maybe.some os) = true

abbrev pub Readable : List ℕ → Type 0
Readable bytes = is_readable (records_of bytes) ≡ true

abbrev pub or_none : maybe.Option (List Operation) → List Operation
or_none maybe.none = []
or_none (maybe.some os) = os

-- the kept operations from a place on
abbrev pub kept_at : List ℕ → ℕ → List Operation
kept_at script at = kept (or_none (records_of (drop at script)))

abbrev pub operation_of : Kind → ℕ → List ℕ → Operation
operation_of kind.Write n bytes = write bytes
operation_of kind.Read n bytes = read n

abbrev pub operation_at : List ℕ → Kept → Operation
operation_at script k = operation_of k.kind k.length (take k.length (drop (k.next - k.length) script))

abbrev pub viewed : List ℕ → Option Kept → List Operation
viewed script None = []
viewed script (Some k) = operation_at script k ∷ kept_at script k.next

-- how many bytes it receives
abbrev pub received_by : Kind → ℕ → ℕ
received_by kind.Write n = 0
received_by kind.Read n = n

abbrev pub receives : Kept → ℕ
receives k = received_by k.kind k.length

-- a kept operation lies between two places of a script, and is as long as a record can say; a read of none is not kept
abbrev pub Sound : Kept → Type 0
Sound k = (k.length ≤ 65535) × (k.kind ≡ kind.Write → k.length ≤ k.next) × (k.kind ≡ kind.Read → 1 ≤ k.length)

abbrev pub Behind : ℕ → List ℕ → Kept → Type 0
Behind from script k = (from < k.next) × (k.next ≤ length script) × Sound k × Readable (drop k.next script)

-- "An operation starts if the one before it is not of its kind, stops if it is last, and a read continues if a read follows."
abbrev pub is_read : Kind → Bool
is_read kind.Write = false
is_read kind.Read = true

abbrev pub reads : Option Kept → Bool
reads None = false
reads (Some k) = is_read k.kind

abbrev pub flags_of : Option Kind → Kept → Option Kept → Flags
flags_of before ahead following =
    record { start = starts (before_of before) (direction_of ahead.kind); stop = is_none following; continues = reads following }

-- "Only the first piece starts, only the last stops; a read piece continues unless last of an operation that doesn't."
abbrev pub piece_flags : Flags → Bool → Bool → Flags
piece_flags flags first last =
    record { start = first && flags.start; stop = last && flags.stop; continues = not last || flags.continues }

-- the steps of one operation
unfoldable pub steps_for : Operation → Flags → List Step
steps_for (write bytes) flags = write_steps (pieces 31 (length bytes)) bytes flags.start flags.stop
steps_for (read n) flags = read_steps (pieces 31 n) flags.start flags.stop flags.continues

abbrev pub Sized : Operation → ℕ → Type 0
Sized (write bytes) n = n ≡ length bytes
Sized (read m) n = (n ≡ m) × (1 ≤ m)

-- what is found, as the plan has it
abbrev pub turn_of : List ℕ → Found → Turn
turn_of script (Write from n start stop landing) = turn (write_step (take n (drop from script)) start stop) landing
turn_of script (Read n start stop continues landing) = turn (read_step n start stop continues) landing
turn_of script Over = over
turn_of script Beyond = beyond

abbrev pub is_turn : Found → Bool
is_turn (Write from n start stop landing) = true
is_turn (Read n start stop continues landing) = true
is_turn Over = false
is_turn Beyond = false

-- a write's bytes are there; a piece fits a chunk
abbrev pub Inside : ℕ → Found → Type 0
Inside end (Write from n start stop landing) = (from + n ≤ end) × (n ≤ 31)
Inside end (Read n start stop continues landing) = n ≤ 31
Inside end Over = Unit {0}
Inside end Beyond = Unit {0}

-- how many bytes its list carries, and the list
abbrev pub size_of : Found → ℕ
size_of (Write from n start stop landing) = n
size_of (Read n start stop continues landing) = n
size_of Over = 0
size_of Beyond = 0

abbrev pub list_for : ℕ → List ℕ → Found → CommandList
list_for address script (Write from n start stop landing) = (write_step_of 32 address (take n (drop from script)) start stop).list
list_for address script (Read n start stop continues landing) = (read_step_of 32 address n start stop continues).list
list_for address script Over = (unlisted (Ok NoList)).list
list_for address script Beyond = (unlisted (Ok NoList)).list

-- how many bytes are to land, and where
abbrev pub takes : Found → ℕ
takes (Write from n start stop landing) = 0
takes (Read n start stop continues landing) = n
takes Over = 0
takes Beyond = 0

abbrev pub lands_at : Found → ℕ
lands_at (Write from n start stop landing) = landing
lands_at (Read n start stop continues landing) = landing
lands_at Over = 0
lands_at Beyond = 0

abbrev pub misplaced : Found → Bool → Bool
misplaced (Write from n start stop landing) outstanding = false
misplaced (Read n start stop continues landing) outstanding = false
misplaced Over outstanding = outstanding
misplaced Beyond outstanding = true

-- an accepted script, and the plan's turn at a place of it
abbrev pub Walkable : List ℕ → Type 0
Walkable script = (3 ≤ length script) × (length script ≤ 4099) × Readable (drop 3 script)

abbrev pub turn_in : List ℕ → ℕ → Turn
turn_in script place = turn_at 0 place (with_list (steps_from 31 nothing (kept_at script 3)))
