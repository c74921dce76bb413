-- `transaction::walk::locate` meets its contract: wherever the walk stands, what is ahead of it gives the answer.
use native.Mathlib.Omega.{arith}
use mathlib.Core.Path.{◌∙◌}
use mathlib.Core.Bool.{false≢true}
use lib.ListN.{length}
use Rattle.transaction.proofs.LawsStanding.{inside_wider, standing_first, standing_over, standing_beyond, Onward, onward}
use Rattle.transaction.proofs.walk.locate.Goals.{After-count_lists-lists}
use Rattle.transaction.proofs.walk.locate.Goals as goal

pub loop-current-init : goal.loop-current-init
loop-current-init c =
    standing_first c.args.script.now c.args.place c.next_kept-current.result c.next_kept-current.ensures

here :
    (c : After-count_lists-lists)
    → Onward c.args.script.now c.args.place c.in-Some.ahead c.next_kept-following.result
    c.flags_of-flags.result c.count_lists-lists.result c.loop-current.left c.loop-current.landing
here c =
    let args = c.args in
    let l = c.loop-current in
    let following = c.next_kept-following in
    let flags = c.flags_of-flags in
    onward args.script.now args.place l.before l.left l.landing c.in-Some.ahead (rw c.in-Some.is at l.invariant)
    following.result following.ensures flags.result flags.ensures c.count_lists-lists.result c.count_lists-lists.ensures
    c.requires.1

pub returns-then-left-lists : goal.returns-then-left-lists
returns-then-left-lists c =
    let s = c.args.script.now in
    let ahead = c.in-Some.ahead in
    let on = here (goal.at.returns-then-left-lists c).After-count_lists-lists in
    let known = (rw c.in-Some.is at c.loop-current.invariant).0 in
    let inside = c.if-left-lists.true in (
      c.piece.ensures.0 s known.0 (omega (arith, inside, on.lists_are)) ∙ on.here inside,
      inside_wider ahead.next (length s) c.piece.result known.0 c.piece.ensures.1,
      (λ t. on.bound inside),
    )

pub loop-current-preserved : goal.loop-current-preserved
loop-current-preserved c =
    rw c.received-landing.ensures
    ((here (goal.at.loop-current-preserved c).After-count_lists-lists).next c.if-left-lists.false)

pub returns-then-left-eq0 : goal.returns-then-left-eq0
returns-then-left-eq0 c =
    let l = c.loop-current in (
      standing_over c.args.script.now c.args.place l.before l.left l.landing (rw c.in_default.is at l.invariant) c.if-left-eq0.true,
      tt,
      (λ t. absurd (false≢true t)),
    )

pub returns-else-left-eq0 : goal.returns-else-left-eq0
returns-else-left-eq0 c =
    let l = c.loop-current in (
      standing_beyond c.args.script.now c.args.place l.before l.left l.landing (rw c.in_default.is at l.invariant) c.if-left-eq0.false,
      tt,
      (λ t. absurd (false≢true t)),
    )
