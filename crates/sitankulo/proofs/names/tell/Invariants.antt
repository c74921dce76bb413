-- So many bytes of the name are laid, and the others are as they were.
use Rattle.std.proofs.Common.{◌≡◌, length}
use Rattle.std.proofs.Math.Seq.{paste}
use Rattle.sitankulo.proofs.names.tell.Given as goal

abbrev pub invariant-loop-i : goal.invariant-loop-i
invariant-loop-i l = (length l.text ≡ length l.initial.text) × (l.text ≡ paste l.initial.text 0 l.fn.name l.i)
