-- What pin changes are on the bus, after UM10204, 3.1.4: SDA falls while SCL is high, a START; SDA rises while SCL is high, a STOP.
use Rattle.std.specs.Prelude.{ℕ, suc, Bool, true, false, cond, List, [], ◌∷◌, ◌++◌}
use Rattle.bus.specs.Events.{Event, start_bit, stop_bit, sent, got}
use Rattle.bus_clear.specs.declared.State.{State}
use Rattle.bus_clear.specs.declared.State.TheVariants.{Idle, SendStop, SendClock}
use Rattle.bus_clear.specs.Pins.{Change, scl, sda}

-- the levels that the pins are set to; high is released
pub record Wires : Type 0 where
  pub clock : Bool
  pub data' : Bool

abbrev pub set : Wires → Change → Wires
set w (scl level) = record { clock = level; data' = w.data' }
set w (sda level) = record { clock = w.clock; data' = level }

-- SDA from one level to another while SCL is high
abbrev pub turned : Bool → Bool → List Event
turned true true = []
turned true false = start_bit ∷ []
turned false true = stop_bit ∷ []
turned false false = []

abbrev pub seen : Wires → Change → List Event
seen w (scl level) = []
seen w (sda level) = cond w.clock (turned w.data' level) []

unfoldable pub wires_after : Wires → List Change → Wires
wires_after w [] = w
wires_after w (c ∷ cs) = wires_after (set w c) cs

unfoldable pub seen_of : Wires → List Change → List Event
seen_of w [] = []
seen_of w (c ∷ cs) = seen w c ++ seen_of (set w c) cs

unfoldable pub stops : List Event → ℕ
stops [] = 0
stops (start_bit ∷ es) = stops es
stops (stop_bit ∷ es) = suc (stops es)
stops (sent b a ∷ es) = stops es
stops (got b a ∷ es) = stops es

-- the levels in each state
abbrev pub wires_in : State → Wires
wires_in Idle = record { clock = true; data' = true }
wires_in SendStop = record { clock = true; data' = false }
wires_in (SendClock n high) = record { clock = high; data' = true }
