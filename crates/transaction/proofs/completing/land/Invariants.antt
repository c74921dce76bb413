-- So many bytes have landed, and the others are as they were.
use Rattle.std.proofs.Common.{◌≡◌, length}
use Rattle.std.proofs.Math.Seq.{paste}
use Rattle.transaction.proofs.completing.land.Given as goal

abbrev pub invariant-loop-i : goal.invariant-loop-i
invariant-loop-i l = (length l.buffer ≡ length l.initial.buffer) × (l.buffer ≡ paste l.initial.buffer l.landing l.byte-items l.i)
