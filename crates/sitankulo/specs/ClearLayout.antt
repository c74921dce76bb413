-- The layout of a bus clear, after include/sitankulo.h, "the bus clear by pins".
use Rattle.std.specs.Prelude.{ℕ, true, false, cond, List, ◌∷◌, length, get_or, leb, eqb, Option, Some, None}
use Rattle.wire.specs.Numbers.{time_at, time_bytes}
use Rattle.bus_clear.specs.declared.State.{State}
use Rattle.bus_clear.specs.declared.State.TheVariants.{Idle, SendStop, SendClock}
use Rattle.bus_clear.specs.declared.BusClear.{BusClear}

-- "A clear, 10 bytes"
abbrev pub clear_size : ℕ
clear_size = 10

-- "byte 0 the state (0 idle, 1 the STOP is to come, 2 a clock with SCL low, 3 with SCL high); byte 1 the clocks left"
abbrev pub state_byte : State → ℕ
state_byte Idle = 0
state_byte SendStop = 1
state_byte (SendClock n high) = cond high 3 2

abbrev pub clocks_byte : State → ℕ
clocks_byte Idle = 0
clocks_byte SendStop = 0
clocks_byte (SendClock n high) = n

-- "2 to 9 the time until which the levels are held"
abbrev pub clear_bytes : BusClear → List ℕ
clear_bytes c = state_byte c.state ∷ clocks_byte c.state ∷ time_bytes c.wait

-- a clear is read back; what no call writes is foreign: too few bytes, another state, or clocks where none are left to count
abbrev pub holding : State → ℕ → Option BusClear
holding state wait = Some (record { state = state; wait = wait })

abbrev pub without_clocks : ℕ → State → ℕ → Option BusClear
without_clocks clocks state wait = cond (eqb clocks 0) (holding state wait) None

unfoldable pub decoded_from : ℕ → ℕ → ℕ → Option BusClear
decoded_from state clocks wait =
    cond (eqb state 0) (without_clocks clocks Idle wait)
    (cond (eqb state 1) (without_clocks clocks SendStop wait)
    (cond (eqb state 2) (holding (SendClock clocks false) wait)
    (cond (eqb state 3) (holding (SendClock clocks true) wait)
    None)))

unfoldable pub decoded_of : List ℕ → Option BusClear
decoded_of bytes =
    cond (leb clear_size (length bytes)) (decoded_from (get_or bytes 0 0) (get_or bytes 1 0) (time_at bytes 2)) None
