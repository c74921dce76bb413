-- The inspector and the controller model over byte slices, after include/sitankulo.h, "the inspector and the controller model".
use Rattle.controller.specs.declared.Phase.{Phase}
use Rattle.std.specs.Prelude.{ℕ, cond, List, length, eqb, Option, Some, None}
use Rattle.wire.specs.Numbers.{words_of}
use Rattle.controller.specs.Model.{phase_number}
use Rattle.controller.specs.Verdicts.{inspected}
use Rattle.sitankulo.specs.Answers.{packed, list_refused}

-- "0 with the phase that the list leaves as detail, or 14."
abbrev pub verdict_answer : Option Phase → ℕ
verdict_answer (Some phase) = packed 0 (phase_number phase)
verdict_answer None = list_refused

-- "inspector's no, also to a word slice that is not 32 bytes long"
abbrev pub inspect_answer : List ℕ → List ℕ → ℕ → ℕ
inspect_answer words fifo phase =
    cond (eqb (length words) 32)
    (verdict_answer (inspected 32 (record { words = words_of words; fifo = fifo }) phase))
    list_refused
