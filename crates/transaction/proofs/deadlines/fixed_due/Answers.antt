-- `transaction::deadlines::fixed_due` meets its contract.
use mathlib.Core.Path.{sym, ◌∙◌}
use Rattle.std.proofs.lemmas.Result.{err_from_is_err_and}
use Rattle.transaction.proofs.LawsDeadlines.{sum_told, sum_out}
use Rattle.transaction.proofs.deadlines.fixed_due.Goals as goal

pub returns-in_err-due-in-Fixed : goal.returns-in_err-due-in-Fixed
returns-in_err-due-in-Fixed c =
    let p = err_from_is_err_and c.from_residual.result c.from_residual.ensures.1 in
    rw (p.1, p.2, c.in-Fixed.is)
    (sum_out c.checked_add.result _ _ c.checked_add.ensures (sym c.ok_or.ensures.value ∙ c.in_err-due-in-Fixed.was))

pub returns-in_ok-due-in-Fixed : goal.returns-in_ok-due-in-Fixed
returns-in_ok-due-in-Fixed c =
    rw c.in-Fixed.is
    (sum_told c.checked_add.result _ _ c.checked_add.ensures (sym c.ok_or.ensures.value ∙ c.in_ok-due-in-Fixed.was))
