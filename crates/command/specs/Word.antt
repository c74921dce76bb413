-- Command words, after 01, "Command words and lists".
use Rattle.std.specs.Prelude.{ℕ, ◌+◌, ◌-◌, ◌*◌, ◌/◌, ◌%◌, ◌≤◌, Bool, cond, ◌&&◌, leb, eqb, Option, Some, None}
use Rattle.command.specs.declared.Command.{Command}
use Rattle.command.specs.declared.Command.TheVariants.{Start, Write, Read, ReadNack, Stop, End}

-- "Opcodes: WRITE 1, STOP 2, READ 3, END 4, START 6."
abbrev pub write_opcode : ℕ
write_opcode = 1

abbrev pub stop_opcode : ℕ
stop_opcode = 2

abbrev pub read_opcode : ℕ
read_opcode = 3

abbrev pub end_opcode : ℕ
end_opcode = 4

abbrev pub start_opcode : ℕ
start_opcode = 6

-- "opcode times 2,048, plus 1,024 for NACK as answer, 512 for NACK expected, 256 for ACK checked, plus a count 0 to 255":
-- a write expects an acknowledged byte and checks that; of a read only the last byte of a run is answered with NACK
abbrev pub nack_as_answer : ℕ
nack_as_answer = 1024

abbrev pub ack_checked : ℕ
ack_checked = 256

abbrev pub encode_of : Command → ℕ
encode_of Start = start_opcode * 2048
encode_of (Write n) = write_opcode * 2048 + ack_checked + n
encode_of (Read n) = read_opcode * 2048 + n
encode_of ReadNack = read_opcode * 2048 + nack_as_answer + 1
encode_of Stop = stop_opcode * 2048
encode_of End = end_opcode * 2048

-- low to high, both included
unfoldable pub within : ℕ → ℕ → ℕ → Bool
within low high w = leb low w && leb w high

-- "Planned words, in hex: START 3000, WRITE n 0900+n, READ n with ACK 1800+n, READ 1 with NACK 1C01, STOP 1000, END 2000.
-- Anything else, done bit included, is malformed (n is 1 to 255)."
unfoldable pub meaning_of : ℕ → Option Command
meaning_of w =
    cond (eqb w 0x3000) (Some Start)
    (cond (within 0x0901 0x09FF w) (Some (Write (w - 0x0900)))
    (cond (within 0x1801 0x18FF w) (Some (Read (w - 0x1800)))
    (cond (eqb w 0x1C01) (Some ReadNack)
    (cond (eqb w 0x1000) (Some Stop)
    (cond (eqb w 0x2000) (Some End)
    None)))))

-- the commands that a plan may hold: "n is 1 to 255"
abbrev pub Plannable : Command → Type 0
Plannable Start = Unit {0}
Plannable (Write n) = (1 ≤ n) × (n ≤ 255)
Plannable (Read n) = (1 ≤ n) × (n ≤ 255)
Plannable ReadNack = Unit {0}
Plannable Stop = Unit {0}
Plannable End = Unit {0}

-- "the command check reads the opcode from bits 11 to 13"
abbrev pub opcode_of : ℕ → ℕ
opcode_of w = w / 2048 % 8

-- "Bit 31 is "done""
abbrev pub done_of : ℕ → Bool
done_of w = eqb (w / 0x80000000 % 2) 1
