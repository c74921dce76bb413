-- `chunks::piece_start` meets its contract: a piece starts inside the n bytes, so its start is no larger than n.
use Prim.Native.Nat.{◌-◌, ◌*◌, ◌≤◌}
use native.Mathlib.Omega.{arith}
use mathlib.Core.Path.{sym}
use Rattle.chunks.proofs.Laws.{start_past, start_inside, start_far, start_near}
use Rattle.chunks.proofs.piece_start.Goals as goal

pub returns-then-count_pieces-j : goal.returns-then-count_pieces-j
returns-then-count_pieces-j c = sym (start_past _ _ _ (omega arith))

inside : (c : goal.Else-count_pieces-j) → c.args.j * c.args.chunk ≤ c.args.n - 1
inside c = let a = c.args in start_inside a.chunk a.n a.j (omega arith)

pub overflow_mul-at : goal.overflow_mul-at
overflow_mul-at c = omega (arith, inside c)

pub overflow_sub-n : goal.overflow_sub-n
overflow_sub-n c = omega (arith, inside c)

pub returns-then-n-at-gt2 : goal.returns-then-n-at-gt2
returns-then-n-at-gt2 c = sym (start_far _ _ _ (omega arith) (omega arith))

pub returns-then-at-lt2 : goal.returns-then-at-lt2
returns-then-at-lt2 c =
    let a = c.args in
    omega (arith, start_near a.chunk a.n a.j (omega arith) (omega arith))

pub returns : goal.returns
returns c = sym (start_near _ _ _ (omega arith) (omega arith))
