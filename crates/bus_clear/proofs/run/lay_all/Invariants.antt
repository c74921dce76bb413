-- What is laid, and then the changes of the polls that are left, is all that is to be laid.
use Prim.Native.Nat.{◌+◌}
use mathlib.Core.Path.{◌≡◌}
use mathlib.Core.List.{map}
use lib.ListN.{length}
use lib.Seq.{sets}
use Rattle.bus_clear.specs.Pins.{change_byte}
use Rattle.bus_clear.specs.Runs.{tape_of, made_in}
use Rattle.bus_clear.proofs.LawsLaying.{still_made}
use Rattle.bus_clear.proofs.run.lay_all.Given as goal

abbrev pub invariant-loop-time : goal.invariant-loop-time
invariant-loop-time l =
    let clocks = l.tape.clocks.now in
    let levels = l.tape.levels.now in
    let left = still_made l.pins clocks levels l.polls l.clear (length l.yielded) in
    let all = made_in l.pins l.polls (tape_of clocks levels) l.initial.clear in
    record {
      room : l.at + length left ≡ length all;
      whole : sets l.memory l.at (map change_byte left) ≡ sets l.initial.memory 0 (map change_byte all);
    }
