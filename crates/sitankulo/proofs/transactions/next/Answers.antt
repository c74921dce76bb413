-- `sitankulo::transactions::next` meets its contract.
use Rattle.std.proofs.Common.{◌≡◌, refl, ◌≤◌, true, false, arith, Err}
use Rattle.std.proofs.lemmas.Grind.{common_steps}
use lib.Dec.{ltb}
use borrow.Author.Tests.{ltb-false}
use Rattle.sitankulo.specs.Records.{is_record}
use Rattle.sitankulo.specs.Transactions.{handed_for}
use Rattle.sitankulo.proofs.LawsHanded.{Few, few_handed}
use Rattle.sitankulo.proofs.LawsNext.{next_unlaid, next_laid}
use Rattle.sitankulo.proofs.transactions.next.Goals.{After-next_list-handed}
use Rattle.sitankulo.proofs.transactions.next.Goals as goal

known : (c : After-next_list-handed) → c.args.deadline ≤ 2
known c = let t : ltb 2 c.args.deadline ≡ false = grind (arith, common_steps) in ltb-false 2 c.args.deadline t

ours : (c : After-next_list-handed) → is_record c.args.state.now ≡ true
ours c = grind (arith, common_steps)

made :
    (c : After-next_list-handed)
    → c.next_list-handed.result
    ≡ handed_for c.args.state.now c.args.deadline c.args.duration c.args.request.address c.args.request.script.now c.args.time
unfolding handed_for
made c = grind (arith, common_steps)

few : (c : After-next_list-handed) → Few c.next_list-handed.result.list
few c =
    few_handed c.in_ok-before.before c.in_ok-settings.settings c.args.request.address c.args.time c.args.request.script.now
    c.next_list-handed.result c.next_list-handed.ensures

pub lay-requires : goal.lay-requires
lay-requires c = (few (goal.at.lay-requires c).After-next_list-handed).0

pub returns-in_err-detail-in-Listed : goal.returns-in_err-detail-in-Listed
returns-in_err-detail-in-Listed c =
    let at = (goal.at.returns-in_err-detail-in-Listed c).After-next_list-handed in
    let res : c.from_residual-in_err-detail-in-Listed.result ≡ Err c.in_err-detail-in-Listed.field-0.0 = grind (arith, common_steps) in
    rw res
    (next_unlaid _ _ _ _ _ _ (known at) (ours at) _ (made at) 0 (rw (c.in_ok-handed.was, c.in-Listed.is)) refl _ _ _ (rw c.in_err-detail-in-Listed.was at c.lay.ensures))

pub returns-in_ok-detail-in-Listed : goal.returns-in_ok-detail-in-Listed
returns-in_ok-detail-in-Listed c =
    let at = (goal.at.returns-in_ok-detail-in-Listed c).After-next_list-handed in
    next_laid _ _ _ _ _ _ (known at) (ours at) _ (made at) 0 (rw (c.in_ok-handed.was, c.in-Listed.is)) refl _ _ _ _ c.encode.ensures
    (rw c.in_ok-detail-in-Listed.was at c.lay.ensures)
