-- `wire::put_words` meets its contract.
use Rattle.std.proofs.Common.{◌≡◌, ◌*◌, ◌≤◌, length, take}
use Rattle.std.proofs.Math.Seq.{paste}
use Rattle.wire.specs.Numbers.{word_bytes}
use Rattle.wire.proofs.put_words.Given as goal

abbrev pub invariant-loop-i : goal.invariant-loop-i
invariant-loop-i l =
    (32 ≤ length l.initial.out) × (l.out ≡ paste l.initial.out 0 (word_bytes (take l.i l.word-items)) (l.i * 4))
