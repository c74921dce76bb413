-- `wire::put_times` meets its contract.
use Rattle.std.proofs.Common.{refl, rules}
use Rattle.wire.specs.Numbers.{time_bytes}
use Rattle.wire.proofs.Laws.{laid_more}
use Rattle.wire.proofs.put_times.Goals as goal

pub loop-i-preserved : goal.loop-i-preserved
loop-i-preserved c = (
  c.loop-i.invariant.0,
  laid_more time_bytes 8 (λ n. refl) c.args.times.now c.args.out.now c.loop-i.out _ c.loop-i.i c.loop-i-test.true
      (search rules) c.loop-i.invariant.1,
)
