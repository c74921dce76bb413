-- `chunks::count_pieces` meets its contract: 0 by any number and any number by 0 are 0, as the quotient has it.
use Prim.Native.Nat.{◌-◌}
use native.Mathlib.Omega.{arith}
use native.Mathlib.Nat.{zero-div, div-zero, div-le_self}
use Rattle.chunks.specs.Pieces.{count_of}
use borrow.Author.Rules.{rules}
use Rattle.chunks.proofs.count_pieces.Goals as goal

pub returns-then-n-eq0 : goal.returns-then-n-eq0
unfolding count_of
returns-then-n-eq0 c = rw (c.if-n-eq0.true, zero-div)

pub returns-then-chunk-eq0 : goal.returns-then-chunk-eq0
unfolding count_of
returns-then-chunk-eq0 c = rw (c.if-chunk-eq0.true, div-zero)

pub overflow_add-result : goal.overflow_add-result
overflow_add-result c = let a = c.args in omega (arith, div-le_self (a.n - 1) a.chunk)

pub returns : goal.returns
unfolding count_of
returns c = search rules
