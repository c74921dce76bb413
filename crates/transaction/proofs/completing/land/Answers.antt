-- `transaction::completing::land` meets its contract: one byte more has landed.
use Prim.Native.Nat.{◌+◌}
use native.Mathlib.Omega.{arith}
use mathlib.Core.Path.{ap, ◌∙◌}
use lib.ListN.{take, set, get_or, length-set}
use Rattle.std.proofs.lemmas.List.{length-take-le}
use Rattle.std.proofs.lemmas.List.Edits.{paste_more}
use Rattle.transaction.proofs.completing.land.Goals as goal

pub loop-i-preserved : goal.loop-i-preserved
loop-i-preserved c =
    let l = c.loop-i in
    let s = take c.in-Read.length c.args.received.now in
    let all = length-take-le c.in-Read.length c.args.received.now (omega (arith, c.if-received-length.false)) in
    let room = rw c.in-Read.is at c.requires in (
      length-set l.buffer _ _ ∙ l.invariant.0,
      ap (λ b. set b (c.in-Read.landing + l.i) (get_or s l.i 0)) l.invariant.1
          ∙ paste_more c.args.buffer.now c.in-Read.landing s l.i 0 (omega (arith, room, all)) (omega arith),
    )
