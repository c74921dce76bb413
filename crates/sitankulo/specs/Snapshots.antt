-- What a snapshot means for a list by itself, after include/sitankulo.h, `sitankulo_classify`.
use Rattle.std.specs.Prelude.{ℕ, ◌+◌, ◌*◌, Bool, cond, List, length, eqb, Option, Some, None}
use Rattle.wire.specs.Numbers.{words_of}
use Rattle.outcome.specs.declared.Classified.{Classified}
use Rattle.outcome.specs.Outcomes.{classify_of}
use Rattle.outcome.specs.Answers.{answer_of}
use Rattle.outcome.specs.Packed.{unpacked}
use Rattle.sitankulo.specs.Answers.{packed, list_refused, yes}

-- "`limited`: it is due at `due`"
abbrev pub due_of : Bool → ℕ → Option ℕ
due_of limited due = cond limited (Some due) None

-- "8 to 11 with the reason as detail"; "Bit 16 of the answer: its poll has succeeded by now."
abbrev pub classified_answer : Classified → ℕ
classified_answer c = packed (answer_of c.outcome).number (answer_of c.outcome).reason + 65536 * cond c.polled 1 0

-- "or 14 (commands not 32 bytes)"
abbrev pub snapshot_answer : ℕ → List ℕ → ℕ → ℕ → ℕ → ℕ → ℕ
snapshot_answer bits commands time polled limited due =
    cond (eqb (length commands) 32)
    (classified_answer (classify_of (unpacked bits (words_of commands) time) (yes polled) (due_of (yes limited) due)))
    list_refused
