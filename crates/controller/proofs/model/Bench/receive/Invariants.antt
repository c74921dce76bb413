-- The loop's invariant: receiving what is left of the bytes, on the trace so far, is the whole run.
use Prim.Native.Nat.{◌-◌}
use mathlib.Core.Path.{◌≡◌}
use Rattle.bus.specs.Events.{Acknowledge}
use Rattle.controller.specs.Model.{Sensor, Run, get}
use Rattle.controller.specs.Traces.{got_kind}
use Rattle.controller.specs.Tracing.{kind_number, traced, Within}
use Rattle.controller.proofs.model.Bench.receive.Given as goal

abbrev pub invariant-loop : goal.invariant-loop
invariant-loop l = record {
  within : Within l.initial.self.trace l.counter l.counter l.self.trace;
  goes_on : (a : Acknowledge) (next : Sensor → Run)
      → kind_number l.kind ≡ got_kind a
      → traced l.initial.self.trace (get a l.n l.initial.self.sensor.sends.now l.initial.self.sensor.refuses next)
      ≡ traced l.self.trace (get a (l.n - l.counter) l.self.sensor.sends.now l.self.sensor.refuses next);
}
