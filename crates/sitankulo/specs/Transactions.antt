-- The calls of a transaction from C, after include/sitankulo.h: what each answers, and when the memory that is lent to it is written.
use Rattle.std.specs.Prelude.{ℕ, ◌*◌, ◌%◌, ◌≡◌, Bool, cond, not, ◌&&◌, ◌||◌, List, length, leb, ltb, eqb, Result, Ok, Err, None}
use Rattle.std.proofs.Math.Seq.{paste}
use Rattle.refusal.specs.declared.Refusal.{Refusal}
use Rattle.refusal.specs.declared.Refusal.TheVariants.{Shape}
use Rattle.refusal.specs.Numbers.{number_of}
use Rattle.outcome.specs.declared.Answer.{Answer}
use Rattle.outcome.specs.declared.Snapshot.{Snapshot}
use Rattle.outcome.specs.Packed.{unpacked}
use Rattle.list.specs.declared.CommandList.{CommandList}
use Rattle.script.specs.Scripts.{Script, asks, refused}
use Rattle.transaction.specs.declared.Deadline.TheVariants.{None, Fixed, PerByte}
use Rattle.transaction.specs.declared.Settings.{Settings}
use Rattle.transaction.specs.declared.Progress.{Progress}
use Rattle.transaction.specs.declared.Begun.{Begun}
use Rattle.transaction.specs.declared.Handed.{Handed}
use Rattle.transaction.specs.declared.Completed.{Completed}
use Rattle.transaction.specs.declared.Abandoned.{Abandoned}
use Rattle.transaction.specs.Calls.{accepted, begin_of, next_of, complete_of, buffer_of, abandon_of}
use Rattle.transaction.specs.Numbers.{begin_number, next_number, completion_answer, abandon_number}
use Rattle.wire.specs.Numbers.{words_of, word_bytes}
use Rattle.sitankulo.specs.Answers.{packed, yes}
use Rattle.sitankulo.specs.Records.{record_bytes, record_in, is_record}

-- "bits 0 to 7: 0, a code, or a refusal"
abbrev pub number_in : ℕ → ℕ
number_in answer = answer % 256

abbrev pub succeeds : ℕ → Bool
succeeds answer = eqb (number_in answer) 0

-- "0 or SITANKULO_CLEAR"
abbrev pub goes_ahead : ℕ → Bool
goes_ahead number = eqb number 0 || eqb number 253

-- the record is written
abbrev pub renewed : List ℕ → Progress → List ℕ
renewed state p = paste state 0 (record_bytes p) 25

-- "A deadline's kind: 0 none; 1 fixed; 2 per byte"
abbrev pub unknown : ℕ → Bool
unknown kind = ltb 2 kind

unfoldable pub settings_of : ℕ → ℕ → Settings
settings_of kind duration =
    record { deadline = cond (eqb kind 0) None (cond (eqb kind 1) (Fixed duration) (PerByte duration)) }

abbrev pub asked_settings : ℕ → ℕ → Result Settings Refusal
asked_settings kind duration = cond (unknown kind) (Err Shape) (Ok (settings_of kind duration))

-- "the eight command words as they read now, 32 bytes"
abbrev pub misfit : List ℕ → Bool
misfit commands = not (eqb (length commands) 32)

abbrev pub snapshot_of : ℕ → List ℕ → ℕ → Snapshot
snapshot_of bits commands time = unpacked bits (words_of commands) time

-- a record that no call left: "the script's 1, 5, 4, 6, 5, 5, 6, then 5 (record)"
abbrev pub foreign_number : Script → ℕ
foreign_number (refused r) = number_of r
foreign_number (asks os) = 5

abbrev pub foreign_refusal : Script → Refusal
foreign_refusal (refused r) = r
foreign_refusal (asks os) = Shape

-- the record, or what stands in its place
abbrev pub held_of : List ℕ → Script → Result Progress Refusal
held_of state script = cond (not (is_record state)) (Err (foreign_refusal script)) (Ok (record_in state))

-- BEGIN: "5 (deadline kind), 1, 5, 4, 6, 5, 5, 6, 7, 13"
unfoldable pub begun_for : ℕ → ℕ → ℕ → List ℕ → ℕ → ℕ → ℕ → Begun
begun_for kind duration address script room busy time =
    begin_of (accepted None) (settings_of kind duration) address script room (yes busy) time

-- a record without room: its 7 comes before 13
abbrev pub roomless : ℕ → ℕ
roomless number = cond (goes_ahead number || eqb number 13) 7 number

unfoldable pub begin_answer : ℕ → ℕ → Begun → ℕ
begin_answer kind room b =
    cond (unknown kind) 5
    (cond (ltb room 25) (roomless (begin_number b.answer))
    (begin_number b.answer))

abbrev pub BeginLeft : ℕ → Begun → ℕ → List ℕ → List ℕ → Type 0
BeginLeft kind b r state state' =
    (r ≡ begin_answer kind (length state) b) × (state' ≡ cond (goes_ahead r) (renewed state b.progress) state)

-- NEXT LIST: "5 (deadline kind), the script's 1, 5, 4, 6, 5, 5, 6, then 5 (record), 12, 13, 7"
unfoldable pub handed_for : List ℕ → ℕ → ℕ → ℕ → List ℕ → ℕ → Handed
handed_for state kind duration address script time = next_of (record_in state) (settings_of kind duration) address script time

-- "`words` gets 32 bytes, `fifo` as many as that"
unfoldable pub list_answer : CommandList → ℕ → ℕ → ℕ
list_answer l words fifo = cond (ltb words 32) 7 (cond (ltb fifo l.count) 7 (256 * l.count))

unfoldable pub next_answer : ℕ → List ℕ → Script → Handed → ℕ → ℕ → ℕ
next_answer kind state script h words fifo =
    cond (unknown kind) 5
    (cond (not (is_record state)) (foreign_number script)
    (cond (not (eqb (next_number h.answer) 0)) (next_number h.answer)
    (list_answer h.list words fifo)))

abbrev pub NextLeft : ℕ → Script → Handed → ℕ → List ℕ → List ℕ → List ℕ → List ℕ → List ℕ → List ℕ → Type 0
NextLeft kind script h r state state' words words' fifo fifo' =
    (r ≡ next_answer kind state script h (length words) (length fifo))
    × (state' ≡ cond (succeeds r) (renewed state h.progress) state)
    × (words' ≡ cond (succeeds r) (paste words 0 (word_bytes h.list.words) 32) words)
    × (fifo' ≡ cond (succeeds r) (paste fifo 0 h.list.fifo h.list.count) fifo)

-- COMPLETION: "14 (commands not 32 bytes), the script's 1, 5, 4, 6, 5, 5, 6, then 5 (record), 12, 7"
unfoldable pub completed_for : List ℕ → ℕ → List ℕ → ℕ → List ℕ → ℕ → List ℕ → List ℕ → Completed
completed_for state address script bits commands time received buffer =
    complete_of (record_in state) address script (snapshot_of bits commands time) received buffer

unfoldable pub landed_for : List ℕ → ℕ → List ℕ → ℕ → List ℕ → ℕ → List ℕ → List ℕ → List ℕ
landed_for state address script bits commands time received buffer =
    buffer_of (record_in state) address script (snapshot_of bits commands time) received buffer

-- "The record is written unless the call is refused with 1 to 7, 12 or 14."
abbrev pub tells : ℕ → Bool
tells number = eqb number 0 || (eqb number 255 || (leb 8 number && leb number 11))

-- "the detail is the reason"
abbrev pub saying : Answer → ℕ
saying a = packed a.number a.reason

unfoldable pub complete_answer : List ℕ → List ℕ → Script → Completed → ℕ
complete_answer state commands script c =
    cond (misfit commands) 14
    (cond (not (is_record state)) (foreign_number script)
    (saying (completion_answer c.answer)))

abbrev pub CompleteLeft : List ℕ → Script → Completed → List ℕ → ℕ → List ℕ → List ℕ → List ℕ → List ℕ → Type 0
CompleteLeft commands script c landed r state state' buffer buffer' =
    (r ≡ complete_answer state commands script c)
    × (state' ≡ cond (tells (number_in r)) (renewed state c.progress) state)
    × (buffer' ≡ cond (succeeds r) landed buffer)

-- ABANDONING: "14 (commands not 32 bytes), 5 (record), 12"
unfoldable pub abandoned_for : List ℕ → ℕ → List ℕ → ℕ → Abandoned
abandoned_for state bits commands time = abandon_of (record_in state) (snapshot_of bits commands time)

unfoldable pub abandon_answer : List ℕ → List ℕ → Abandoned → ℕ
abandon_answer state commands a =
    cond (misfit commands) 14
    (cond (not (is_record state)) 5
    (abandon_number a.answer))

abbrev pub AbandonLeft : List ℕ → Abandoned → ℕ → List ℕ → List ℕ → Type 0
AbandonLeft commands a r state state' =
    (r ≡ abandon_answer state commands a) × (state' ≡ cond (goes_ahead r) (renewed state a.progress) state)
