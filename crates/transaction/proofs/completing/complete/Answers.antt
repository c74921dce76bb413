-- `transaction::completing::complete` meets its contract.
use Rattle.std.specs.Prelude.{Ok, Err}
use native.Mathlib.Omega.{arith}
use mathlib.Core.Path.{◌≡◌, refl, sym, ◌∙◌}
use mathlib.Core.Bool.{cond}
use lib.ListN.{length}
use lib.Seq.{paste}
use Rattle.std.proofs.lemmas.Result.{err_from_is_err_and}
use Rattle.refusal.specs.declared.Refusal.{Refusal}
use Rattle.refusal.specs.declared.Refusal.TheVariants.{Shape, Room, OutOfTurn}
use Rattle.outcome.specs.Outcomes.{received_of}
use Rattle.transaction.specs.declared.Completed.{Completed}
use Rattle.transaction.specs.Walk.{takes, lands_at, turn_of}
use Rattle.transaction.specs.Calls.{keeping, told_by, succeeded, turn_completed, complete_of, buffer_of}
use Rattle.transaction.proofs.LawsScript.{walkable, total_read, complete_refused, complete_accepted}
use Rattle.transaction.proofs.LawsTurn.{lands_inside, told_misplaced, told_out_of_turn, told_no_room, told_settled, laid_settled, told_turn}
use Rattle.transaction.proofs.LawsCompletion.{settled_done, settled_undone}
use Rattle.transaction.proofs.completing.complete.Goals.{After-locate-found, After-settle, in-Done, in_default}
use Rattle.transaction.proofs.completing.complete.Goals as goal

pub returns-in_err-total : goal.returns-in_err-total
returns-in_err-total c =
    let args = c.args in
    let p = err_from_is_err_and c.from_residual.result c.from_residual.ensures.1 in
    rw (p.1, p.2)
    (complete_refused args.request.address args.request.script.now _ (sym c.in_err-total.was ∙ c.read_script.ensures)
    args.progress.now args.snapshot args.received.now args.buffer.now _ refl)

pub locate-found-requires : goal.locate-found-requires
locate-found-requires c =
    walkable c.args.request.address c.args.request.script.now _ (sym c.in_ok-total.was ∙ c.read_script.ensures)

-- a refusal at the turn that is found keeps the record and the read buffer
refused :
    (c : After-locate-found) (r : Refusal)
    → turn_completed (turn_of c.args.request.script.now c.locate-found.result) c.in_ok-total.total c.args.progress.now c.args.snapshot
    (length c.args.received.now) (length c.args.buffer.now)
    ≡ keeping (Err r) c.args.progress.now
    → (keeping (Err r) c.args.progress.now
    ≡ complete_of c.args.progress.now c.args.request.address c.args.request.script.now c.args.snapshot c.args.received.now c.args.buffer.now)
    × (c.args.buffer.now
    ≡ buffer_of c.args.progress.now c.args.request.address c.args.request.script.now c.args.snapshot c.args.received.now c.args.buffer.now)
refused c r e =
    let args = c.args in
    complete_accepted args.request.address args.request.script.now c.in_ok-total.total (sym c.in_ok-total.was ∙ c.read_script.ensures)
    args.progress.now args.snapshot args.received.now args.buffer.now args.buffer.now (keeping (Err r) args.progress.now)
    (sym (rw c.locate-found.ensures.0 at e), refl)

pub returns-then-is_misplaced : goal.returns-then-is_misplaced
returns-then-is_misplaced c =
    let args = c.args in
    refused (goal.at.returns-then-is_misplaced c).After-locate-found Shape
    (told_misplaced args.request.script.now c.in_ok-total.total args.progress.now args.snapshot
    (length args.received.now) (length args.buffer.now) c.locate-found.result (sym c.is_misplaced.ensures ∙ c.if-is_misplaced.true))

pub returns-then-not-progress : goal.returns-then-not-progress
returns-then-not-progress c =
    let args = c.args in
    refused (goal.at.returns-then-not-progress c).After-locate-found OutOfTurn
    (told_out_of_turn args.request.script.now c.in_ok-total.total args.progress.now args.snapshot
    (length args.received.now) (length args.buffer.now) c.locate-found.result (sym c.is_misplaced.ensures ∙ c.if-is_misplaced.false)
    c.if-not-progress.true)

pub returns-then-buffer-total : goal.returns-then-buffer-total
returns-then-buffer-total c =
    let args = c.args in
    refused (goal.at.returns-then-buffer-total c).After-locate-found Room
    (told_no_room args.request.script.now c.in_ok-total.total args.progress.now args.snapshot
    (length args.received.now) (length args.buffer.now) c.if-not-progress.false c.locate-found.result
    (sym c.is_misplaced.ensures ∙ c.if-is_misplaced.false) c.if-buffer-total.true)

pub land-told-requires : goal.land-told-requires
land-told-requires c =
    let args = c.args in
    let total = total_read args.request.address args.request.script.now _ (sym c.in_ok-total.was ∙ c.read_script.ensures) in
    omega (arith, total, lands_inside args.request.script.now args.progress.now.place c.locate-found.result c.locate-found.ensures.0)

pub settle-requires : goal.settle-requires
settle-requires c =
    let args = c.args in
    let turn = told_turn args.request.script.now c.in_ok-total.total args.progress.now args.snapshot (length args.received.now)
    (length args.buffer.now) c.if-not-progress.false c.locate-found.result (sym c.is_misplaced.ensures ∙ c.if-is_misplaced.false) in
    omega (arith, c.locate-found.ensures.2 turn)

settled :
    (c : After-settle)
    → (◌≡◌ {A = Completed} (record { answer = Ok c.match-classified.told; progress = c.settle.new.self })
    (told_by c.classify-classified.result (received_of (takes c.locate-found.result) (length c.args.received.now)) c.args.progress.now))
    × (c.match-classified.buffer ≡ cond (succeeded (Ok c.match-classified.told))
    (paste c.args.buffer.now (lands_at c.locate-found.result) c.args.received.now (takes c.locate-found.result)) c.args.buffer.now)
settled c =
    let args = c.args in
    let found = c.locate-found.result in
    elim c.match-classified.branch [
      | in-Done w ↦ settled_done c.classify-classified.result (takes found) (length args.received.now) args.progress.now c.settle.new.self
          args.buffer.now (paste args.buffer.now (lands_at found) args.received.now (takes found)) c.match-classified.told
          w.in-Done.is (w.told-is ∙ w.land-told.ensures.0) c.settle.ensures c.match-classified.buffer
          (rw w.told-is (w.buffer-is ∙ w.land-told.ensures.1))
      | in_default w ↦ rw w.buffer-is
          (settled_undone c.classify-classified.result (takes found) (length args.received.now) args.progress.now c.settle.new.self
          args.buffer.now (paste args.buffer.now (lands_at found) args.received.now (takes found)) c.match-classified.told
          w.in_default.not-Done w.told-is c.settle.ensures)
    ]

pub returns : goal.returns
returns c =
    let args = c.args in
    let s = args.request.script.now in
    let found = c.locate-found in
    let p = args.progress.now in
    let got = length args.received.now in
    let room = length args.buffer.now in
    let waits = c.if-not-progress.false in
    let placed = sym c.is_misplaced.ensures ∙ c.if-is_misplaced.false in
    let done = settled c in
    complete_accepted args.request.address s c.in_ok-total.total (sym c.in_ok-total.was ∙ c.read_script.ensures)
    p args.snapshot args.received.now args.buffer.now c.match-classified.buffer
    (record { answer = Ok c.match-classified.told; progress = c.settle.new.self })
    (rw (← found.ensures.0) (
      (rw c.classify-classified.ensures at done.0)
          ∙ sym (told_settled s c.in_ok-total.total p args.snapshot got room waits found.result placed c.if-buffer-total.false),
      rw (laid_settled s c.in_ok-total.total p args.snapshot got room waits found.result args.received.now args.buffer.now placed) done.1,
    ))
