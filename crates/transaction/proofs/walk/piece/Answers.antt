-- `transaction::walk::piece` meets its contract.
use native.Mathlib.Omega.{arith}
use mathlib.Core.Path.{refl}
use Rattle.transaction.proofs.LawsOperation.{Cut, cut}
use Rattle.transaction.proofs.walk.piece.Goals.{After-cut-offset}
use Rattle.transaction.proofs.walk.piece.Goals as goal

here :
    (c : After-cut-offset)
    → Cut c.args.ahead c.args.flags c.args.at c.args.landing
    c.cut-offset.result.offset c.cut-offset.result.size c.cut-offset.result.own
here c =
    let args = c.args in
    let cutting = c.cut-offset in
    cut args.ahead args.flags args.at args.landing c.requires.0 cutting.result.offset cutting.result.size _
    cutting.result.own cutting.ensures.0 cutting.ensures.1 refl cutting.ensures.2

pub overflow_add-result : goal.overflow_add-result
overflow_add-result c = omega (arith, (here (goal.at.overflow_add-result c).After-cut-offset).starts_inside)

pub returns-in-Read : goal.returns-in-Read
returns-in-Read c =
    let piece = here (goal.at.returns-in-Read c).After-cut-offset in
    ((λ script inside h. piece.is_read script c.in-Read.is c.requires.1), piece.fits, refl)

pub overflow_add-result-in-Write : goal.overflow_add-result-in-Write
overflow_add-result-in-Write c =
    omega (arith, (here (goal.at.overflow_add-result-in-Write c).After-cut-offset).starts_inside, c.requires.0.1 c.in-Write.is)

pub returns-in-Write : goal.returns-in-Write
returns-in-Write c =
    let piece = here (goal.at.returns-in-Write c).After-cut-offset in
    let whole = c.requires.0.1 c.in-Write.is in (
      (λ script inside h. piece.is_write script c.in-Write.is inside h),
      (omega (arith, piece.ends_inside, whole), piece.fits),
      refl,
    )
