use native.Mathlib.Omega.{arith}
use mathlib.Core.Path.{ap, ◌∙◌}
use lib.ListN.{length-append}
use Rattle.controller.specs.Model.{events_of}
use Rattle.controller.specs.Tracing.{traced, heard_all}
use Rattle.controller.proofs.LawsTraces.{put_refused, put_acknowledged, put_over}
use Rattle.controller.proofs.model.Bench.send.Goals as goal

pub returns-then-self-eq1-clause-comes_to : goal.returns-then-self-eq1-clause-comes_to
unfolding traced heard_all events_of
returns-then-self-eq1-clause-comes_to c =
    let l = c.loop-byte in
    λ next.
    l.invariant.goes_on next
    ∙ rw (c.note.ensures, c.if-self-eq1.true) (put_refused next c.args.bytes.now _ l.byte-index l.self.trace c.loop-byte-test.true)

pub loop-byte-preserved : goal.loop-byte-preserved
loop-byte-preserved c =
    let l = c.loop-byte in
    record {
      within = rw c.note-in-loop-byte.ensures (simp length-append (omega arith), omega arith);
      goes_on = λ next.
          l.invariant.goes_on next
          ∙ rw (c.note-in-loop-byte.ensures, c.saturating_sub-self.ensures)
          (put_acknowledged next c.args.bytes.now _ l.byte-index l.self.trace c.loop-byte-test.true l.self.sensor.refuses
          c.if-self-eq1.false);
    }

pub returns-clause-comes_to : goal.returns-clause-comes_to
returns-clause-comes_to c =
    let l = c.loop-byte in
    λ next.
    l.invariant.goes_on next ∙ ap (traced l.self.trace) (put_over next c.args.bytes.now _ l.byte-index _ c.loop-byte-test.false)
