-- `sitankulo::records::encode` meets its contract.
use Prim.Native.Nat.{◌≤◌}
use mathlib.Core.List.{[], ◌∷◌}
use lib.ListN.{length, set, length-set}
use Rattle.wire.specs.Numbers.{laid, times_bytes}
use Rattle.sitankulo.proofs.LawsRecords.{part_put, encoded}
use Rattle.sitankulo.proofs.records.encode.Goals as goal

pub returns : goal.returns
unfolding laid
returns c =
    let p = c.args.p in
    let state = c.args.state.now in
    let flags = c.flags_of.result in
    let due = c.unwrap_or.result in
    let fixed = c.unwrap_or-2.result in
    let long : 25 ≤ length (set state 0 flags) = rw length-set c.requires in
    encoded p state _ flags due fixed c.requires c.flags_of.ensures c.unwrap_or.ensures c.unwrap_or-2.ensures
    (part_put (set state 0 flags) _ (times_bytes (p.place ∷ due ∷ fixed ∷ [])) 1 24 long c.put_times.ensures)
