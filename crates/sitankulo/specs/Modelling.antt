-- A run on the controller model over byte slices, after include/sitankulo.h, `sitankulo_model_run`.
use Rattle.std.specs.Prelude.{ℕ, ◌+◌, ◌*◌, ◌≡◌, Bool, cond, List, length, eqb, Option, Some, None}
use Rattle.wire.specs.Numbers.{words_of}
use Rattle.controller.specs.declared.model.Ending.{Ending}
use Rattle.controller.specs.declared.model.Ending.TheVariants.{Stuck, Refused, Finished}
use Rattle.controller.specs.declared.model.Report.{Report}
use Rattle.controller.specs.Model.{Run, phase_number, events_of}
use Rattle.controller.specs.Traces.{run_of, traffic_bytes, received_bytes, trace_fits, trace_report, laid}
use Rattle.sitankulo.specs.Answers.{packed, room, list_refused}

-- "0 with the phase that the list leaves as detail; SITANKULO_STUCK; SITANKULO_UNANSWERED"
abbrev pub ending_answer : Ending → ℕ
ending_answer Stuck = 247
ending_answer Refused = 248
ending_answer (Finished phase) = packed 0 (phase_number phase)

-- "Bits 16 to 23 of the answer: how many bytes were received, .. Bits 24 to 31: how many events went over the bus"; or 7
abbrev pub told_by : Option Ending → ℕ → ℕ → ℕ
told_by None received events = room
told_by (Some ending) received events = ending_answer ending + 65536 * received + 16777216 * events

abbrev pub report_answer : Report → ℕ
report_answer r = told_by r.answer r.received r.events

-- "or 14 (words not 32 bytes), 7"; without a list nothing runs
abbrev pub whole : List ℕ → Bool
whole words = eqb (length words) 32

abbrev pub run_answer : List ℕ → Run → List ℕ → List ℕ → ℕ
run_answer words run received events =
    cond (whole words) (report_answer (trace_report run (length received) (length events))) list_refused

-- lent memory at exit
abbrev pub received_after : List ℕ → Run → List ℕ → List ℕ → List ℕ
received_after words run received events =
    cond (whole words) (laid (trace_fits run (length received) (length events)) (received_bytes (events_of run)) received) received

abbrev pub events_after : List ℕ → Run → List ℕ → List ℕ → List ℕ
events_after words run received events =
    cond (whole words) (laid (trace_fits run (length received) (length events)) (traffic_bytes (events_of run)) events) events

-- the run that is asked for
unfoldable pub run_asked : List ℕ → List ℕ → ℕ → List ℕ → ℕ → Run
run_asked words fifo phase sends refuses = run_of (words_of words) fifo phase sends refuses

-- WHAT THE CALL LEAVES: its answer, and each lent memory as it was and as it is
abbrev pub ModelLeft : List ℕ → Run → ℕ → List ℕ → List ℕ → List ℕ → List ℕ → Type 0
ModelLeft words run r received received' events events' =
    (r ≡ run_answer words run received events)
    × (received' ≡ received_after words run received events)
    × (events' ≡ events_after words run received events)
