-- `transaction::walk::next_kept` meets its contract: wherever the walk stands, it has passed nothing that is kept.
use Prim.Native.Nat.{◌-◌}
use lib.ListN.{length}
use Rattle.transaction.proofs.LawsKept.{Stands}
use Rattle.transaction.proofs.walk.next_kept.Given as goal

abbrev pub invariant-loop-length : goal.invariant-loop-length
invariant-loop-length l = Stands l.script l.from l.at

abbrev pub decreases-loop-length : goal.decreases-loop-length
decreases-loop-length l = length l.script - l.at
