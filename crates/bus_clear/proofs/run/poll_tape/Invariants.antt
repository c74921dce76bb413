-- The polls and changes so far, and what is left of the run, are the whole run.
use Prim.Native.Nat.{◌*◌, ◌≤◌}
use mathlib.Core.Path.{◌≡◌}
use lib.ListN.{length}
use Rattle.bus_clear.specs.Runs.{polled_over, counted_of}
use Rattle.bus_clear.proofs.LawsRuns.{plus, left}
use Rattle.bus_clear.proofs.run.poll_tape.Given as goal

abbrev pub invariant-loop-time : goal.invariant-loop-time
invariant-loop-time l = record {
  counted : l.polls ≡ length l.yielded;
  few : l.changes ≤ 2 * l.polls;
  whole : plus l.polls l.changes (counted_of (left l.t l.tape.clocks.now l.tape.levels.now l.clear l.polls))
      ≡ counted_of (polled_over l.t l.tape.clocks.now l.tape.levels.now l.initial.clear);
}
