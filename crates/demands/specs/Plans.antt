-- A traffic against a sensor: event by event, up to the written byte that the sensor refuses; then the bus is free.
use Rattle.std.specs.Prelude.{ℕ, zero, suc, List, [], ◌∷◌, map, drop}
use Rattle.bus.specs.Events.{nack, Event, start_bit, stop_bit, sent, got}
use Rattle.bus.specs.Operations.{Operation}
use Rattle.controller.specs.declared.Phase.TheVariants.{Idle}
use Rattle.controller.specs.Model.{Sensor, Run, refused, done, emit, run_lists}
use Rattle.turns.specs.Plan.{planned}
use Rattle.demands.specs.Built.{held}

unfoldable pub meets : List Event → List ℕ → ℕ → Run
meets [] sends refuses = done Idle (record { sends = sends; refuses = refuses })
meets (start_bit ∷ es) sends refuses = emit start_bit (meets es sends refuses)
meets (stop_bit ∷ es) sends refuses = emit stop_bit (meets es sends refuses)
meets (got b a ∷ es) sends refuses = emit (got b a) (meets es (drop 1 sends) refuses)
meets (sent b a ∷ es) sends zero = emit (sent b a) (meets es sends zero)
meets (sent b a ∷ es) sends (suc zero) = emit (sent b nack) refused
meets (sent b a ∷ es) sends (suc (suc r)) = emit (sent b a) (meets es sends (suc r))

-- the plan's lists, run in turn from Idle
unfoldable pub planned_run : ℕ → ℕ → ℕ → List Operation → Sensor → Run
planned_run f c address os k = run_lists f (map held (planned f c address os)) Idle k
