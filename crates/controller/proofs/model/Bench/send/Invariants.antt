-- The loop's invariant: sending what is left of the bytes, on the trace so far, is the whole run.
use mathlib.Core.Path.{◌≡◌}
use lib.ListN.{drop}
use Rattle.controller.specs.Model.{Sensor, Run, put}
use Rattle.controller.specs.Tracing.{traced, Within}
use Rattle.controller.proofs.model.Bench.send.Given as goal

abbrev pub invariant-loop-byte : goal.invariant-loop-byte
invariant-loop-byte l = record {
  within : Within l.initial.self.trace l.byte-index 0 l.self.trace;
  goes_on : (next : Sensor → Run)
      → traced l.initial.self.trace (put l.bytes l.initial.self.sensor.sends.now l.initial.self.sensor.refuses next)
      ≡ traced l.self.trace (put (drop l.byte-index l.bytes) l.self.sensor.sends.now l.self.sensor.refuses next);
}
