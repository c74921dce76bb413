-- `transaction::walk::locate` meets its contract: wherever the walk stands, what is ahead of it gives the answer.
use Rattle.transaction.proofs.LawsStanding.{Standing, remains}
use Rattle.transaction.proofs.walk.locate.Given as goal

abbrev pub invariant-loop-current : goal.invariant-loop-current
invariant-loop-current l = Standing l.script l.place l.before l.current l.left l.landing

abbrev pub decreases-loop-current : goal.decreases-loop-current
decreases-loop-current l = remains l.script l.place l.current
