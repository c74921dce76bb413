-- `wire::put_times` meets its contract.
use Rattle.std.proofs.Common.{◌≡◌, ◌*◌, ◌≤◌, length, take}
use Rattle.std.proofs.Math.Seq.{paste}
use Rattle.wire.specs.Numbers.{times_bytes}
use Rattle.wire.proofs.put_times.Given as goal

abbrev pub invariant-loop-i : goal.invariant-loop-i
invariant-loop-i l =
    (length l.times * 8 ≤ length l.initial.out) × (l.out ≡ paste l.initial.out 0 (times_bytes (take l.i l.times)) (l.i * 8))
