use native.Mathlib.Omega.{arith}
use mathlib.Core.Path.{ap}
use lib.ListN.{length}
use Rattle.list.proofs.LawsTables.{length_filled, filled_set}
use Rattle.list.proofs.table.Table.push.Goals as goal

pub invariant_of-self : goal.invariant_of-self
invariant_of-self c =
    let filled = c.self.invariant in
    filled_set 8 _ _ filled _ (omega (arith, ap length c.self.view_is, length_filled 8 _ _ filled))
