-- The controller's rules, one for each command, after 01, "Inspector and controller model". The first argument is always the size of
-- the FIFO: 32 in the base.
use Rattle.std.specs.Prelude.{ℕ, ◌+◌, ◌%◌, Bool, true, false, cond, ◌&&◌, List, length, get_or, drop, leb, eqb}
use Rattle.command.specs.declared.Command.{Command}
use Rattle.command.specs.declared.Command.TheVariants.{Start, Write, Read, ReadNack, Stop, End}
use Rattle.controller.specs.declared.Phase.{Phase}
use Rattle.controller.specs.declared.Phase.TheVariants.{Idle, Started, Writing, Reading, ReadDone}

-- where a list stands: the phase, the FIFO bytes that are left, and how many bytes were received in this list
pub record State : Type 0 where
  pub phase : Phase
  pub fifo : List ℕ
  pub received : ℕ

-- what a command comes to: it halts the controller, it goes on, or it finishes the list in a phase
pub data Effect : Type 0 where
  halts : Effect
  goes_on : State → Effect
  finishes : Phase → Effect

-- "START needs Idle, Writing or ReadDone."
abbrev pub may_start : Phase → Bool
may_start Idle = true
may_start Started = false
may_start Writing = true
may_start Reading = false
may_start ReadDone = true

-- "WRITE n needs .. Started or Writing; in Started its first byte is the address, low bit 0 leads to Writing, 1 to Reading with n = 1
-- only."
abbrev pub is_read : ℕ → Bool
is_read first = eqb (first % 2) 1

abbrev pub may_write : ℕ → ℕ → Phase → Bool
may_write n first Idle = false
may_write n first Started = cond (is_read first) (eqb n 1) true
may_write n first Writing = true
may_write n first Reading = false
may_write n first ReadDone = false

abbrev pub after_write : ℕ → Phase → Phase
after_write first Idle = Idle
after_write first Started = cond (is_read first) Reading Writing
after_write first Writing = Writing
after_write first Reading = Reading
after_write first ReadDone = ReadDone

-- "READ needs Reading"
abbrev pub may_read : Phase → Bool
may_read Idle = false
may_read Started = false
may_read Writing = false
may_read Reading = true
may_read ReadDone = false

-- "STOP needs Writing or ReadDone"
abbrev pub may_stop : Phase → Bool
may_stop Idle = false
may_stop Started = false
may_stop Writing = true
may_stop Reading = false
may_stop ReadDone = true

-- "END needs any phase but Idle and Started"
abbrev pub may_end : Phase → Bool
may_end Idle = false
may_end Started = false
may_end Writing = true
may_end Reading = true
may_end ReadDone = true

-- "READ needs Reading and at most 32 received in this list": n bytes, and the phase after them
abbrev pub read_turn : ℕ → ℕ → Phase → State → Effect
read_turn f n after s =
    cond (may_read s.phase && leb (s.received + n) f)
    (goes_on (record { phase = after; fifo = s.fifo; received = s.received + n }))
    halts

-- "Both finish the list and need an empty FIFO."
abbrev pub closes : Bool → Phase → State → Effect
closes allowed after s = cond (allowed && eqb (length s.fifo) 0) (finishes after) halts

-- what each command needs and where it leads: "WRITE n needs n FIFO bytes"; of a READ "NACK leads to ReadDone"; "STOP .. leads to Idle"
unfoldable pub effect_of : ℕ → Command → State → Effect
effect_of f Start s =
    cond (may_start s.phase) (goes_on (record { phase = Started; fifo = s.fifo; received = s.received })) halts
effect_of f (Write n) s =
    cond (leb n (length s.fifo) && may_write n (get_or s.fifo 0 0) s.phase)
    (goes_on (record { phase = after_write (get_or s.fifo 0 0) s.phase; fifo = drop n s.fifo; received = s.received }))
    halts
effect_of f (Read n) s = read_turn f n Reading s
effect_of f ReadNack s = read_turn f 1 ReadDone s
effect_of f Stop s = closes (may_stop s.phase) Idle s
effect_of f End s = closes (may_end s.phase) s.phase s
