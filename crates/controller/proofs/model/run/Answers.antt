use mathlib.Core.Logic.{inl, inr}
use Rattle.controller.proofs.LawsHeard.{short_received, short_events, reports}
use Rattle.controller.proofs.model.run.Goals as goal

pub returns-then-received-got : goal.returns-then-received-got
returns-then-received-got c =
    let e = c.follow-ended in
    elim c.then-received-got.either [
      | inl short ↦ short_received e.result e.new.self _ e.ensures _ _ (rw c.as_slice-got.ensures at short)
      | inr short ↦ short_events e.result e.new.self _ e.ensures _ _ (rw c.as_slice-happened.ensures at short.1)
    ]

pub returns : goal.returns
returns c =
    let a = c.args in
    let e = c.follow-ended in
    let got = c.as_slice-got.ensures in
    let happened = c.as_slice-happened.ensures in
    rw (c.report.ensures, c.copy_from_slice.ensures.after, c.copy_from_slice-2.ensures.after, got, happened)
    (reports e.result e.new.self _ e.ensures a.received.now a.events.now (rw got at c.if-received-got.false)
    (rw happened at c.if-events-happened.false))
