-- What the builder's lists do on the controller model: three blocks say it for every list. The first argument is the size of the FIFO.
use Rattle.std.specs.Prelude.{ℕ, ◌-◌, Bool, true, false, List, map, take}
use Rattle.bus.specs.Events.{ack, nack, start_bit, stop_bit}
use Rattle.command.specs.declared.Command.{Command}
use Rattle.command.specs.Word.{encode_of}
use Rattle.list.specs.declared.CommandList.{CommandList}
use Rattle.list.specs.Lists.{write_fifo, write_commands, read_fifo, read_commands, padded}
use Rattle.controller.specs.declared.Phase.{Phase}
use Rattle.controller.specs.declared.Phase.TheVariants.{Idle, Started, Writing, Reading, ReadDone}
use Rattle.controller.specs.Rules.{may_start, may_read}
use Rattle.controller.specs.Model.{Sensor, Run, emit, put, get, Commands}

-- the words and FIFO bytes of a list with these commands
abbrev pub commands_list : List Command → List ℕ → Commands
commands_list commands fifo = record { words = padded 8 (map encode_of commands); fifo = fifo }

abbrev pub write_list : ℕ → List ℕ → Bool → Bool → Commands
write_list address bytes start stop = commands_list (write_commands address bytes start stop) (write_fifo address bytes start)

abbrev pub read_list : ℕ → ℕ → Bool → Bool → Bool → Commands
read_list address n start stop continues =
    commands_list (read_commands address n start stop continues) (read_fifo address start)

-- a list as the builder hands it over, with the bytes that count
abbrev pub held : CommandList → Commands
held l = record { words = l.words; fifo = take l.count l.fifo }

-- OPENING: START and the address bytes, if the list starts
abbrev pub opens : Bool → List ℕ → Sensor → (Sensor → Run) → Run
opens true address k next = emit start_bit (put address k.sends k.refuses next)
opens false address k next = next k

-- THE BYTES of a read: each acknowledged, but for the last where the read does not continue
abbrev pub takes_in : Bool → ℕ → Sensor → (Sensor → Run) → Run
takes_in true n k next = get ack n k.sends k.refuses next
takes_in false n k next = get ack (n - 1) k.sends k.refuses (λ j. get nack 1 j.sends j.refuses next)

-- CLOSING: STOP, or the list ends in the phase that it is in
abbrev pub shuts : Bool → Phase → Sensor → (Phase → Sensor → Run) → Run
shuts true p k finish = emit stop_bit (finish Idle k)
shuts false p k finish = finish p k

-- the phases that fit a list's flags: a list that starts needs a phase in which START is allowed; one that does not goes on in its kind
abbrev pub fits_write : Bool → Phase → Bool
fits_write true p = may_start p
fits_write false Idle = false
fits_write false Started = false
fits_write false Writing = true
fits_write false Reading = false
fits_write false ReadDone = false

abbrev pub fits_read : Bool → Phase → Bool
fits_read true p = may_start p
fits_read false p = may_read p

-- the phase after the bytes of a read
abbrev pub after_read : Bool → Phase
after_read true = Reading
after_read false = ReadDone

-- the phase that a list leaves
abbrev pub leaves : Bool → Phase → Phase
leaves true p = Idle
leaves false p = p
