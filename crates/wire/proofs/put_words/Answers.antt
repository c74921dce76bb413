-- `wire::put_words` meets its contract.
use Rattle.std.proofs.Common.{arith, refl, rules}
use Rattle.wire.specs.Numbers.{four_bytes}
use Rattle.wire.proofs.Laws.{laid_more}
use Rattle.wire.proofs.put_words.Goals as goal

pub loop-i-preserved : goal.loop-i-preserved
loop-i-preserved c = (
  c.loop-i.invariant.0,
  laid_more four_bytes 4 (λ n. refl) c.args.words c.args.out.now c.loop-i.out _ c.loop-i.i (omega arith)
      (search rules) c.loop-i.invariant.1,
)
