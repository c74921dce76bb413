-- Command lists, after 01, "Command words and lists". What depends on the size of the FIFO takes it first: 32 in the base.
use Rattle.refusal.specs.declared.Refusal.{Refusal}
use Rattle.std.specs.Prelude.{ℕ, zero, suc, ◌-◌, Bool, true, false, cond, not, ◌&&◌, List, [], ◌∷◌, ◌++◌, map, length, replicate, ltb, eqb, Result, Ok, Err}
use Rattle.bus.specs.Events.{Event, start_bit, stop_bit, sent, got, Direction, to_sensor, from_sensor}
use Rattle.bus.specs.Traffic.{opening}
use Rattle.command.specs.declared.Command.{Command}
use Rattle.command.specs.declared.Command.TheVariants.{Start, Write, Read, ReadNack, Stop, End}
use Rattle.command.specs.Word.{encode_of}
use Rattle.refusal.specs.Numbers.{number_or}
use Rattle.refusal.specs.declared.Refusal.TheVariants.{AddressInvalid, ZeroLengthInvalid, FifoExceeded}
use Rattle.list.specs.declared.Answer.{Answer}
use Rattle.list.specs.declared.Answer.TheVariants.{Listed, NoList}
use Rattle.list.specs.declared.Built.{Built}

-- the bytes that the controller itself sends among these events
unfoldable pub sent_bytes : List Event → List ℕ
sent_bytes [] = []
sent_bytes (start_bit ∷ es) = sent_bytes es
sent_bytes (stop_bit ∷ es) = sent_bytes es
sent_bytes (got b a ∷ es) = sent_bytes es
sent_bytes (sent b a ∷ es) = b ∷ sent_bytes es

-- what opens a run goes through the FIFO: the address byte, times 2, plus 1 for a read
abbrev pub address_bytes : ℕ → Direction → List ℕ
address_bytes address d = sent_bytes (opening address d)

-- "1 AddressInvalid: address above 127"
abbrev pub invalid : ℕ → Bool
invalid address = ltb 127 address

-- "Limit 31 with start, 32 without."
abbrev pub write_limit : ℕ → ℕ → Bool → ℕ
write_limit f address start = cond start (f - length (address_bytes address to_sensor)) f

-- "Limit 32 if it will continue, else 31."
abbrev pub read_limit : ℕ → Bool → ℕ
read_limit f continues = cond continues f (f - 1)

abbrev pub when : Bool → List Command → List Command
when true cs = cs
when false cs = []

-- a command with a count, and none for a count of 0
abbrev pub counted : (ℕ → Command) → ℕ → List Command
counted command zero = []
counted command (suc n) = command (suc n) ∷ []

-- "Then STOP if stop; then END unless both start and stop."
abbrev pub closing : Bool → Bool → List Command
closing start stop = when stop (Stop ∷ []) ++ when (not (start && stop)) (End ∷ [])

-- "With start: START; the WRITE count is n+1 and the FIFO gets address times 2 first. Without: count n, no WRITE when n is 0."
unfoldable pub write_fifo : ℕ → List ℕ → Bool → List ℕ
write_fifo address bytes start = cond start (address_bytes address to_sensor ++ bytes) bytes

unfoldable pub write_commands : ℕ → List ℕ → Bool → Bool → List Command
write_commands address bytes start stop =
    when start (Start ∷ []) ++ counted Write (length (write_fifo address bytes start)) ++ closing start stop

-- "With start: START, WRITE 1, FIFO byte address times 2 plus 1. Continuing: READ n with ACK. Else: READ n-1 with ACK if n is
-- above 1, then READ 1 with NACK. STOP and END as for writes."
unfoldable pub read_fifo : ℕ → Bool → List ℕ
read_fifo address start = cond start (address_bytes address from_sensor) []

abbrev pub receiving : ℕ → Bool → List Command
receiving n continues = cond continues (counted Read n) (counted Read (n - 1) ++ (ReadNack ∷ []))

unfoldable pub read_commands : ℕ → ℕ → Bool → Bool → Bool → List Command
read_commands address n start stop continues =
    when start (Start ∷ []) ++ counted Write (length (read_fifo address start)) ++ receiving n continues ++ closing start stop

-- "A list is eight 32-bit words, .. unused ones 0"; "at most 32 FIFO bytes and their count, unused ones 0"
unfoldable pub padded : ℕ → List ℕ → List ℕ
padded size l = l ++ replicate (size - length l) 0

unfoldable pub listed : List Command → List ℕ → Built
listed commands fifo =
    record {
      answer = Ok Listed;
      list = record { words = padded 8 (map encode_of commands); fifo = padded 32 fifo; count = length fifo };
    }

-- "A refusal returns eight zero words and no FIFO bytes where a list is due."
unfoldable pub unlisted : Result Answer Refusal → Built
unlisted answer =
    record { answer = answer; list = record { words = replicate 8 0; fifo = replicate 32 0; count = 0 } }

-- "Builder order: 1, 2, 3": a write
unfoldable pub write_of : ℕ → ℕ → List ℕ → Bool → Bool → Built
write_of f address bytes start stop =
    cond (invalid address) (unlisted (Err AddressInvalid))
    (cond (ltb (write_limit f address start) (length bytes)) (unlisted (Err FifoExceeded))
    (listed (write_commands address bytes start stop) (write_fifo address bytes start)))

-- and a read of n
unfoldable pub read_of : ℕ → ℕ → ℕ → Bool → Bool → Bool → Built
read_of f address n start stop continues =
    cond (invalid address) (unlisted (Err AddressInvalid))
    (cond (eqb n 0) (unlisted (Err ZeroLengthInvalid))
    (cond (ltb (read_limit f continues) n) (unlisted (Err FifoExceeded))
    (listed (read_commands address n start stop continues) (read_fifo address start))))

-- "An empty write with neither start nor stop, and any empty read, give no list and succeed (after the address check)."
unfoldable pub write_step_of : ℕ → ℕ → List ℕ → Bool → Bool → Built
write_step_of f address bytes start stop =
    cond (not (invalid address) && (eqb (length bytes) 0 && (not start && not stop))) (unlisted (Ok NoList))
    (write_of f address bytes start stop)

unfoldable pub read_step_of : ℕ → ℕ → ℕ → Bool → Bool → Bool → Built
read_step_of f address n start stop continues =
    cond (not (invalid address) && eqb n 0) (unlisted (Ok NoList)) (read_of f address n start stop continues)

-- the number of an answer: 0 for a list, 254 for none, and a refusal's own
abbrev pub kind_number : Answer → ℕ
kind_number Listed = 0
kind_number NoList = 254

abbrev pub answer_number : Result Answer Refusal → ℕ
answer_number answer = number_or kind_number answer
