-- The loop's invariant: what is left of the words, run on the trace so far, is the whole run; and each word and each byte has caused at
-- most one event.
use mathlib.Core.Path.{◌≡◌}
use lib.ListN.{drop}
use Rattle.controller.specs.Places.{state_at}
use Rattle.controller.specs.Model.{run_from, done}
use Rattle.controller.specs.Traces.{run_of}
use Rattle.controller.specs.Tracing.{blank_trace, traced, sensor_at}
use Rattle.controller.proofs.LawsSpent.{Spare}
use Rattle.controller.proofs.model.Bench.follow.Given as goal

abbrev pub invariant-loop-word : goal.invariant-loop-word
invariant-loop-word l = record {
  spare : Spare l.word-index (state_at l.place) l.self.trace;
  goes_on : traced l.self.trace (run_from 32 (drop l.word-index l.word-items) (state_at l.place) (sensor_at l.self) done)
      ≡ traced blank_trace
      (run_of l.list.words l.list.fifo.now l.fn.phase l.initial.self.sensor.sends.now l.initial.self.sensor.refuses);
}
