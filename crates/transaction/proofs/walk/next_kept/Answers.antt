-- `transaction::walk::next_kept` meets its contract: wherever the walk stands, it has passed nothing that is kept.
use native.Mathlib.Omega.{arith}
use mathlib.Core.Logic.{inl, inr}
use Rattle.transaction.proofs.LawsKept.{Seen, seen}
use Rattle.transaction.proofs.walk.next_kept.Goals.{After-next_record-found}
use Rattle.transaction.proofs.walk.next_kept.Goals as goal

here :
    (c : After-next_record-found)
    → Seen c.args.script.now c.args.from c.loop-length.at c.next_record-found.result
here c =
    let args = c.args in
    let l = c.loop-length in
    seen args.script.now args.from l.at l.invariant c.next_record-found.result c.next_record-found.ensures

pub returns-in-End : goal.returns-in-End
returns-in-End c =
    let step = here (goal.at.returns-in-End c).After-next_record-found in
    elim c.in-End.is [ inl e ↦ step.ends e | inr e ↦ absurd (step.never_bad e) ]

pub loop-length-smaller : goal.loop-length-smaller
loop-length-smaller c =
    let passed = (here (goal.at.loop-length-smaller c).After-next_record-found).passes c.in-Read.length c.in-Read.is (omega arith) in
    omega (arith, passed.0, passed.1.1)

pub loop-length-preserved : goal.loop-length-preserved
loop-length-preserved c =
    ((here (goal.at.loop-length-preserved c).After-next_record-found).passes c.in-Read.length c.in-Read.is (omega arith)).1

pub returns-in-Read : goal.returns-in-Read
returns-in-Read c =
    (here (goal.at.returns-in-Read c).After-next_record-found).is_read c.in-Read.length (omega arith) c.in-Read.is (omega arith)

pub returns-in-Write : goal.returns-in-Write
returns-in-Write c =
    (here (goal.at.returns-in-Write c).After-next_record-found).is_write c.in-Write.length (omega arith) c.in-Write.is
