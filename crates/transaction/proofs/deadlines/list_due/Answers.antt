-- `transaction::deadlines::list_due` meets its contract.
use mathlib.Core.Path.{sym, ◌∙◌}
use Rattle.std.proofs.lemmas.Result.{err_from_is_err_and}
use Rattle.transaction.proofs.LawsDeadlines.{checked_told, sum_told, sum_out, product_out}
use Rattle.transaction.proofs.deadlines.list_due.Goals as goal

pub returns-in_err-wait-in-PerByte : goal.returns-in_err-wait-in-PerByte
returns-in_err-wait-in-PerByte c =
    let p = err_from_is_err_and c.from_residual.result c.from_residual.ensures.1 in
    rw (p.1, p.2, c.in-PerByte.is)
    (product_out c.checked_mul.result c.args.time _ _ c.checked_mul.ensures (sym c.ok_or.ensures.value ∙ c.in_err-wait-in-PerByte.was))

pub returns-in_err-due-in-PerByte : goal.returns-in_err-due-in-PerByte
returns-in_err-due-in-PerByte c =
    let p = err_from_is_err_and c.from_residual-in_err-due-in-PerByte.result c.from_residual-in_err-due-in-PerByte.ensures.1 in
    let wait = checked_told c.checked_mul.result _ _ c.checked_mul.ensures (sym c.ok_or.ensures.value ∙ c.in_ok-wait-in-PerByte.was) in
    rw (p.1, p.2, c.in-PerByte.is, ← wait.0)
    (sum_out c.checked_add.result _ _ c.checked_add.ensures (sym c.ok_or-in-PerByte.ensures.value ∙ c.in_err-due-in-PerByte.was))

pub returns-in_ok-due-in-PerByte : goal.returns-in_ok-due-in-PerByte
returns-in_ok-due-in-PerByte c =
    let wait = checked_told c.checked_mul.result _ _ c.checked_mul.ensures (sym c.ok_or.ensures.value ∙ c.in_ok-wait-in-PerByte.was) in
    rw (c.in-PerByte.is, ← wait.0)
    (sum_told c.checked_add.result _ _ c.checked_add.ensures (sym c.ok_or-in-PerByte.ensures.value ∙ c.in_ok-due-in-PerByte.was))
