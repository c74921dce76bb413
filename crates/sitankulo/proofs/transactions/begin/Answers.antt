-- `sitankulo::transactions::begin` meets its contract.
use Rattle.std.proofs.Common.{◌≡◌, refl, ◌≤◌, false, arith, Err}
use Rattle.std.proofs.lemmas.Grind.{common_steps}
use lib.Dec.{ltb}
use borrow.Author.Tests.{ltb-false}
use Rattle.sitankulo.specs.Transactions.{begun_for}
use Rattle.sitankulo.proofs.LawsForeign.{halts}
use Rattle.sitankulo.proofs.LawsBegin.{begin_roomless, begin_stays}
use Rattle.sitankulo.proofs.transactions.begin.Goals.{After-begin-begun}
use Rattle.sitankulo.proofs.transactions.begin.Goals as goal

known : (c : After-begin-begun) → c.args.deadline ≤ 2
known c = let t : ltb 2 c.args.deadline ≡ false = grind (arith, common_steps) in ltb-false 2 c.args.deadline t

made :
    (c : After-begin-begun)
    → c.begin-begun.result
    ≡ begun_for c.args.deadline c.args.duration c.args.request.address c.args.request.script.now c.args.room c.args.busy c.args.time
unfolding begun_for
made c = grind (arith, common_steps)

pub returns-then-state-lt-SIZE : goal.returns-then-state-lt-SIZE
returns-then-state-lt-SIZE c =
    let at = (goal.at.returns-then-state-lt-SIZE c).After-begin-begun in
    begin_roomless _ _ _ _ (made at) _ refl (known at) c.if-state-lt-SIZE.true _ c.roomless.ensures

pub returns-in_err-beginning : goal.returns-in_err-beginning
returns-in_err-beginning c =
    let at = (goal.at.returns-in_err-beginning c).After-begin-begun in
    let r = c.in_err-beginning.field-0.0 in
    let res : c.from_residual-in_err-beginning.result ≡ Err r = grind (arith, common_steps) in
    rw res (begin_stays _ _ _ _ (made at) _ (rw c.in_err-beginning.was) (known at) c.if-state-lt-SIZE.false (halts r))
