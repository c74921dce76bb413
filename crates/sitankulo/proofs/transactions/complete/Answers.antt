-- `sitankulo::transactions::complete` meets its contract.
use Rattle.std.proofs.Common.{◌≡◌, true, false, arith}
use Rattle.std.proofs.lemmas.Grind.{common_steps}
use mathlib.Core.Path.{sym, ◌∙◌}
use Rattle.sitankulo.specs.Records.{is_record}
use Rattle.sitankulo.specs.Transactions.{misfit, completed_for, landed_for}
use Rattle.sitankulo.proofs.LawsComplete.{not_landed, complete_silent, complete_told_lem}
use Rattle.sitankulo.proofs.transactions.complete.Goals.{After-complete-completed, then-does_tell, else-does_tell}
use Rattle.sitankulo.proofs.transactions.complete.Goals as goal

fit : (c : After-complete-completed) → misfit c.args.commands.now ≡ false
fit c = grind (arith, common_steps)

ours : (c : After-complete-completed) → is_record c.args.state.now ≡ true
ours c = grind (arith, common_steps)

made :
    (c : After-complete-completed)
    → c.complete-completed.result
    ≡ completed_for c.args.state.now c.args.request.address c.args.request.script.now c.args.bits
    c.args.commands.now c.args.time c.args.received.now c.args.buffer.now
unfolding completed_for
made c = grind (arith, common_steps)

lands :
    (c : After-complete-completed)
    → c.complete-completed.new.buffer
    ≡ landed_for c.args.state.now c.args.request.address c.args.request.script.now c.args.bits
    c.args.commands.now c.args.time c.args.received.now c.args.buffer.now
unfolding landed_for
lands c = grind (arith, common_steps)

pub returns : goal.returns
returns c =
    let at = (goal.at.returns c).After-complete-completed in
    let a = c.completion_answer-told in
    rw c.pack.ensures
    (elim c.if-does_tell.branch [
      | then-does_tell w ↦
          complete_told_lem _ _ _ _ _ _ (fit at) (ours at) _ (made at) _ a.ensures (not_landed _ _ _ _ _ _ _ _) _ (lands at)
          (rw a.ensures (sym c.does_tell.ensures ∙ w.if-does_tell.true)) _ (w.state-is ∙ w.encode.ensures)
      | else-does_tell w ↦
          rw w.state-is
          (complete_silent _ _ _ _ _ _ (fit at) (ours at) _ (made at) _ a.ensures (not_landed _ _ _ _ _ _ _ _) _ (lands at)
          (rw a.ensures (sym c.does_tell.ensures ∙ w.if-does_tell.false)))
    ])
