-- What can be seen on the bus, after UM10204, "I2C-bus specification and user manual".
use Rattle.std.specs.Prelude.{ℕ}

-- 3.1.6: the ninth clock of a byte. SDA low is ACK, SDA high is NACK
pub data Acknowledge : Type 0 where
  ack : Acknowledge
  nack : Acknowledge

-- 3.1.4: a START opens a transfer, or turns it round while the bus is busy (a repeated START); a STOP frees the bus.
-- 3.1.5, 3.1.6: every byte is 8 bits and its acknowledge bit. A byte that the controller sent is acknowledged, or not, by the
-- sensor; a byte that the sensor sent, by the controller
pub data Event : Type 0 where
  start_bit : Event
  stop_bit : Event
  sent : ℕ → Acknowledge → Event
  got : ℕ → Acknowledge → Event

-- 3.1.10: the eighth bit after a START says who sends the data: 0 the controller (a write), 1 the sensor (a read)
pub data Direction : Type 0 where
  to_sensor : Direction
  from_sensor : Direction

abbrev pub direction_bit : Direction → ℕ
direction_bit to_sensor = 0
direction_bit from_sensor = 1
