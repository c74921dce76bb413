-- `plan::tokens::Words::next` passes each byte before the word once.
use Rattle.std.proofs.Common.{◌≤◌, length}
use Rattle.plan.proofs.tokens.WordsIterator.next.Given as goal

abbrev pub invariant-loop-first : goal.invariant-loop-first
invariant-loop-first l = length l.self.rest.now ≤ length l.initial.self.rest.now

abbrev pub decreases-loop-first : goal.decreases-loop-first
decreases-loop-first l = length l.self.rest.now
