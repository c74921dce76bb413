-- `transaction::next::hand_out` meets its contract.
use Rattle.std.specs.Prelude.{Ok}
use mathlib.Core.Path.{◌≡◌, sym, ap, ◌∙◌}
use Rattle.std.proofs.lemmas.Result.{err_from_is_err_and}
use Rattle.script.specs.Scripts.{script_of, told_of}
use Rattle.turns.specs.Turns.{Turn}
use Rattle.transaction.specs.Walk.{turn_of, list_for}
use Rattle.transaction.specs.Calls.{turn_handed, handed_by, next_of}
use Rattle.transaction.proofs.LawsScript.{walkable, next_refused, next_accepted}
use Rattle.transaction.proofs.LawsTurn.{outstanding_out, failed_out, handed_misplaced, handed_out_of_turn, handed_none, handed_list}
use Rattle.transaction.proofs.next.hand_out.Goals.{In_ok-read_script, After-locate-found, After-list_due, then-progress-via-then-progress, then-progress-via-else-progress+then-progress-2}
use Rattle.transaction.proofs.next.hand_out.Goals as goal

pub returns-in_err-read_script : goal.returns-in_err-read_script
returns-in_err-read_script c =
    let args = c.args in
    let p = err_from_is_err_and c.from_residual.result c.from_residual.ensures.1 in
    rw (p.1, p.2)
    (next_refused args.request.address args.request.script.now _ (sym c.in_err-read_script.was ∙ c.read_script.ensures)
    args.progress.now args.settings args.time)

accepted :
    (c : In_ok-read_script)
    → Ok c.in_ok-read_script.field-0 ≡ told_of (script_of c.args.request.address c.args.request.script.now)
accepted c = sym c.in_ok-read_script.was ∙ c.read_script.ensures

pub locate-found-requires : goal.locate-found-requires
locate-found-requires c =
    walkable c.args.request.address c.args.request.script.now _ (accepted (goal.at.locate-found-requires c).In_ok-read_script)

told :
    (c : After-locate-found)
    → turn_handed (turn_of c.args.request.script.now c.locate-found.result) c.args.progress.now c.args.settings
    c.args.request.address c.args.time
    ≡ next_of c.args.progress.now c.args.settings c.args.request.address c.args.request.script.now c.args.time
told c =
    let args = c.args in
    ap (λ (t : Turn). turn_handed t args.progress.now args.settings args.request.address args.time) c.locate-found.ensures.0
    ∙ next_accepted args.request.address args.request.script.now _ (sym c.in_ok-read_script.was ∙ c.read_script.ensures)
    args.progress.now args.settings args.time

pub returns-then-is_misplaced : goal.returns-then-is_misplaced
returns-then-is_misplaced c =
    let args = c.args in
    handed_misplaced args.request.script.now args.progress.now args.settings args.request.address args.time
    c.locate-found.result (sym c.is_misplaced.ensures ∙ c.if-is_misplaced.true)
    ∙ told (goal.at.returns-then-is_misplaced c).After-locate-found

pub returns-then-progress : goal.returns-then-progress
returns-then-progress c =
    let args = c.args in
    let p = args.progress.now in
    handed_out_of_turn args.request.script.now p args.settings args.request.address args.time
    c.locate-found.result (sym c.is_misplaced.ensures ∙ c.if-is_misplaced.false)
    (elim c.then-progress.branch [
      | then-progress-via-then-progress w ↦ outstanding_out p w.if-progress.true
      | then-progress-via-else-progress+then-progress-2 w ↦ failed_out p w.if-progress.false w.if-progress-2.true
    ])
    ∙ told (goal.at.returns-then-progress c).After-locate-found

pub returns-then-is_over : goal.returns-then-is_over
returns-then-is_over c =
    let args = c.args in
    handed_none args.request.script.now args.progress.now args.settings args.request.address args.time
    c.if-progress.false c.if-progress-2.false c.locate-found.result (sym c.is_misplaced.ensures ∙ c.if-is_misplaced.false)
    (sym c.is_over.ensures ∙ c.if-is_over.true)
    ∙ told (goal.at.returns-then-is_over c).After-locate-found

listed :
    (c : After-list_due)
    → handed_by c.list_due.result (list_for c.args.request.address c.args.request.script.now c.locate-found.result) c.args.progress.now
    ≡ next_of c.args.progress.now c.args.settings c.args.request.address c.args.request.script.now c.args.time
listed c =
    let args = c.args in
    rw (c.list_due.ensures, c.size.ensures)
    (handed_list args.request.script.now args.progress.now args.settings args.request.address args.time
    c.if-progress.false c.if-progress-2.false c.locate-found.result c.locate-found.ensures.1
    (sym c.is_over.ensures ∙ c.if-is_over.false))
    ∙ told (goal.at.After-list_due c).After-locate-found

pub returns-in_err-due : goal.returns-in_err-due
returns-in_err-due c =
    let p = err_from_is_err_and c.from_residual-in_err-due.result c.from_residual-in_err-due.ensures.1 in
    rw (p.1, p.2) (rw c.in_err-due.was at (listed (goal.at.returns-in_err-due c).After-list_due))

pub returns : goal.returns
returns c = rw c.build.ensures (rw c.in_ok-due.was at (listed (goal.at.returns c).After-list_due))
