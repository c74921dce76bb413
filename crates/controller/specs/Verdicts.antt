-- What it means that a list passes. The inspector has no rules of its own: it says what the model does.
use Rattle.controller.specs.declared.Phase.{Phase}
use Rattle.std.specs.Prelude.{ℕ, [], Option, Some, None}
use Rattle.controller.specs.Model.{Sensor, Run, stuck, refused, done, emit, Commands, run_list, in_phase}

-- "a sensor that acknowledges everything"
abbrev pub willing : Sensor
willing = record { sends = []; refuses = 0 }

-- one list by itself, from a phase given by its number
abbrev pub run_one : ℕ → Commands → ℕ → Sensor → Run
run_one f l n k = in_phase n (λ p. run_list f l p k done)

-- a list passes, in the phase that it leaves, unless it gets stuck
abbrev pub verdict_of : Run → Option Phase
verdict_of stuck = None
verdict_of refused = None
verdict_of (done p k) = Some p
verdict_of (emit e r) = verdict_of r

unfoldable pub inspected : ℕ → Commands → ℕ → Option Phase
inspected f l n = verdict_of (run_one f l n willing)
