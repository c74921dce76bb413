use native.Mathlib.Omega.{arith}
use mathlib.Core.Path.{ap, ◌∙◌}
use lib.ListN.{length-append}
use Rattle.controller.specs.Tracing.{traced}
use Rattle.controller.proofs.LawsTraces.{get_next, get_over}
use Rattle.controller.proofs.model.Bench.receive.Goals as goal

pub loop-preserved : goal.loop-preserved
loop-preserved c =
    let l = c.loop in
    let s = c.send-byte.ensures in
    record {
      within = rw (c.store.ensures, c.note.ensures) (simp length-append (omega arith), simp length-append (omega arith));
      goes_on = λ a next e.
          l.invariant.goes_on a next e
          ∙ rw (c.store.ensures, c.note.ensures, s.byte, s.sends, s.refuses, e)
          (get_next next a c.args.n l.counter l.self.sensor.sends.now l.self.sensor.refuses l.self.trace c.loop-test.true);
    }

pub returns-clause-comes_to : goal.returns-clause-comes_to
returns-clause-comes_to c =
    let l = c.loop in
    λ a e next.
    l.invariant.goes_on a next e ∙ ap (traced l.self.trace) (get_over next a c.args.n l.counter _ _ c.loop-test.false)
