-- Worked examples of the traffic, by computation, at the sensor's address 29 hex: 52 opens a write, 53 a read.
-- Assumes nothing.
use mathlib.Core.Path.{◌≡◌, refl}
use mathlib.Core.List.{[], ◌∷◌}
use Rattle.bus.specs.Events.{ack, nack, start_bit, stop_bit, sent, got}
use Rattle.bus.specs.Operations.{write, read, kept, join, runs}
use Rattle.bus.specs.Traffic.{opening, written, next_byte, received, transferred, on_bus, traffic, cut}

-- a register read: the register's number, a repeated START, two bytes of which the last is not acknowledged
pub register_read :
    traffic 0x29 (0x12 ∷ 0x34 ∷ []) (write (0xA0 ∷ []) ∷ read 2 ∷ [])
    ≡ start_bit ∷ sent 0x52 ack ∷ sent 0xA0 ack ∷ start_bit ∷ sent 0x53 ack ∷ got 0x12 ack ∷ got 0x34 nack ∷ stop_bit ∷ []
unfolding traffic on_bus transferred opening written received next_byte runs join
register_read = refl

-- a lone empty write asks whether the sensor is there
pub empty_write : traffic 0x29 [] (write [] ∷ []) ≡ start_bit ∷ sent 0x52 ack ∷ stop_bit ∷ []
unfolding traffic on_bus transferred opening written runs join
empty_write = refl

-- two reads in a row are one run: one START, NACK on the last byte only; beyond what the sensor sends, 255
pub two_reads :
    traffic 0x29 (7 ∷ 8 ∷ []) (read 1 ∷ read 2 ∷ [])
    ≡ start_bit ∷ sent 0x53 ack ∷ got 7 ack ∷ got 8 ack ∷ got 255 nack ∷ stop_bit ∷ []
unfolding traffic on_bus transferred opening received next_byte runs join
two_reads = refl

-- an empty read between two writes is dropped first, so that the writes are one run
pub dropped_read :
    traffic 0x29 [] (kept (write (1 ∷ []) ∷ read 0 ∷ write (2 ∷ []) ∷ []))
    ≡ start_bit ∷ sent 0x52 ack ∷ sent 1 ack ∷ sent 2 ack ∷ stop_bit ∷ []
unfolding traffic on_bus transferred opening written runs join kept
dropped_read = refl

-- nothing kept, nothing on the bus
pub nothing_kept : traffic 0x29 [] (kept (read 0 ∷ [])) ≡ []
unfolding traffic on_bus runs kept
nothing_kept = refl

-- the address is refused: the traffic ends with it, and no STOP follows
pub refused_address : cut 1 (traffic 0x29 [] (write (1 ∷ []) ∷ [])) ≡ start_bit ∷ sent 0x52 nack ∷ []
unfolding cut traffic on_bus transferred opening written runs join
refused_address = refl

-- the third written byte is refused, the second of the data
pub refused_third_byte :
    cut 3 (traffic 0x29 [] (write (1 ∷ 2 ∷ 3 ∷ []) ∷ []))
    ≡ start_bit ∷ sent 0x52 ack ∷ sent 1 ack ∷ sent 2 nack ∷ []
unfolding cut traffic on_bus transferred opening written runs join
refused_third_byte = refl
