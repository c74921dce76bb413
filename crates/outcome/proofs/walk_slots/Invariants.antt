-- `outcome::walk_slots` meets its contract. The loop's invariant: what is left of the slots gives the whole answer.
use Rattle.std.proofs.Common.{◌≡◌, drop}
use Rattle.outcome.specs.Outcomes.{slots_of}
use Rattle.outcome.proofs.walk_slots.Given as goal

abbrev pub invariant-loop-word : goal.invariant-loop-word
invariant-loop-word l = slots_of l.past (drop l.word-index l.fn.commands) ≡ slots_of l.past l.fn.commands
