-- `transaction::accept` meets its contract.
use mathlib.Core.Path.{◌≡◌, sym, ◌∙◌}
use Rattle.std.proofs.lemmas.Result.{err_from_is_err_and}
use Rattle.transaction.specs.Calls.{accepted_by, begin_of}
use Rattle.transaction.proofs.LawsScript.{begin_refused, begin_room, begin_accepted}
use Rattle.transaction.proofs.accept.Goals.{After-fixed_due}
use Rattle.transaction.proofs.accept.Goals as goal

pub returns-in_err-total : goal.returns-in_err-total
returns-in_err-total c =
    let args = c.args in
    let p = err_from_is_err_and c.from_residual.result c.from_residual.ensures.1 in
    rw (p.1, p.2)
    (begin_refused args.request.address args.request.script.now _ (sym c.in_err-total.was ∙ c.read_script.ensures)
    args.progress.now args.settings args.room args.busy args.time)

pub returns-then-room-total : goal.returns-then-room-total
returns-then-room-total c =
    let args = c.args in
    begin_room args.request.address args.request.script.now _ (sym c.in_ok-total.was ∙ c.read_script.ensures)
    args.progress.now args.settings args.room args.busy args.time c.if-room-total.true

begun :
    (c : After-fixed_due)
    → accepted_by c.fixed_due.result c.args.busy c.args.progress.now
    ≡ begin_of c.args.progress.now c.args.settings c.args.request.address c.args.request.script.now c.args.room c.args.busy c.args.time
begun c =
    let args = c.args in
    rw c.fixed_due.ensures
    (begin_accepted args.request.address args.request.script.now _ (sym c.in_ok-total.was ∙ c.read_script.ensures)
    args.progress.now args.settings args.room args.busy args.time c.if-room-total.false)

pub returns-in_err-fixed : goal.returns-in_err-fixed
returns-in_err-fixed c =
    let p = err_from_is_err_and c.from_residual-in_err-fixed.result c.from_residual-in_err-fixed.ensures.1 in
    rw (p.1, p.2) (rw c.in_err-fixed.was at (begun (goal.at.returns-in_err-fixed c).After-fixed_due))

pub returns-then-busy : goal.returns-then-busy
returns-then-busy c =
    let blank = c.default.ensures in
    rw (blank.0, blank.1.0, blank.1.1.0, blank.1.1.1.0, blank.1.1.1.1.0, c.if-busy.true)
    (rw (c.in_ok-fixed.was, c.if-busy.true) at (begun (goal.at.returns-then-busy c).After-fixed_due))

pub returns-else-busy : goal.returns-else-busy
returns-else-busy c =
    let blank = c.default.ensures in
    rw (blank.0, blank.1.0, blank.1.1.0, blank.1.1.1.0, blank.1.1.1.1.0, c.if-busy.false)
    (rw (c.in_ok-fixed.was, c.if-busy.false) at (begun (goal.at.returns-else-busy c).After-fixed_due))
