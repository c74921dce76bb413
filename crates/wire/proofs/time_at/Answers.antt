-- `wire::time_at` meets its contract.
use Rattle.std.proofs.Common.{arith}
use Rattle.std.proofs.lemmas.List.{get_or-take, get_or-drop}
use Rattle.std.proofs.lemmas.Slice.{between_to_end}
use Rattle.wire.specs.Numbers.{word_at, time_at}
use Rattle.wire.proofs.time_at.Goals as goal

pub returns : goal.returns
unfolding time_at word_at
returns c =
    let rest = c.in-Some.ensures.lookup.0 in
    let time = c.in-Some-first_chunk.ensures.cases in
    grind (arith, get_or-take, get_or-drop, between_to_end)
