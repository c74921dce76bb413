-- The loop's invariant: the verdict on what is left of the words is the verdict on all.
use mathlib.Core.Path.{◌≡◌}
use lib.ListN.{drop}
use Rattle.controller.specs.Places.{state_at}
use Rattle.controller.specs.Model.{run_from, run_list, done}
use Rattle.controller.specs.Verdicts.{willing, verdict_of}
use Rattle.controller.proofs.inspector.inspect_from.Given as goal

abbrev pub invariant-loop-word : goal.invariant-loop-word
invariant-loop-word l =
    verdict_of (run_from 32 (drop l.word-index l.word-items) (state_at l.place) willing done)
    ≡ verdict_of (run_list 32 (record { words = l.list.words; fifo = l.list.fifo.now }) l.fn.phase willing done)
