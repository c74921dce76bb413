-- `transaction::walk::count_lists` meets its contract.
use mir.Val.{bool_byte}
use mathlib.Core.Path.{ap, ◌∙◌}
use native.Mathlib.Omega.{arith}
use Rattle.transaction.proofs.LawsOperation.{one_most, stops_most, starting_list, stopping_lists, lists_of_pieces}
use Rattle.transaction.proofs.walk.count_lists.Goals.{then-flags, else-flags}
use Rattle.transaction.proofs.walk.count_lists.Goals as goal

pub returns-then-size-eq0 : goal.returns-then-size-eq0
returns-then-size-eq0 c =
    let flags = c.args.flags in
    let empty = c.if-size-eq0.true in
    elim c.if-flags.branch [
      | then-flags w ↦ (
        (λ o z. c.from.ensures ∙ ap bool_byte (w.from-is ∙ w.if-flags.true) ∙ starting_list o flags (rw empty at z) w.if-flags.true),
        rw (c.from.ensures, w.from-is, w.if-flags.true, empty) one_most,
      )
      | else-flags w ↦ (
        (λ o z. rw (c.from.ensures, w.from-is) (stopping_lists o flags (rw empty at z) w.if-flags.false)),
        rw (c.from.ensures, w.from-is, empty) (stops_most flags),
      )
    ]

pub returns : goal.returns
returns c =
    let args = c.args in (
      (λ o z. c.count_pieces.ensures ∙ lists_of_pieces o args.flags args.size z c.if-size-eq0.false),
      rw c.count_pieces.ensures (omega arith),
    )
