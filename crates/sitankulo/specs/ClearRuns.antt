-- A run of the bus clear in lent memory, after include/sitankulo.h, `sitankulo_clear_run`.
use Rattle.bus_clear.specs.declared.BusClear.{BusClear}
use Rattle.std.specs.Prelude.{ℕ, ◌≡◌, Bool, cond, ◌&&◌, List, [], ◌∷◌, ◌++◌, map, length, leb, Option, Some, None}
use Rattle.std.proofs.Math.Seq.{paste}
use Rattle.std.proofs.lemmas.List.Edits.{sets}
use Rattle.wire.specs.Numbers.{time_bytes}
use Rattle.bus_clear.specs.declared.run.Ending.{Ending}
use Rattle.bus_clear.specs.declared.run.Ending.TheVariants.{Ready, GivenUp, Spent, TapeOver, ClockRange}
use Rattle.bus_clear.specs.declared.run.Terms.{Terms}
use Rattle.bus_clear.specs.Pins.{change_byte}
use Rattle.bus_clear.specs.Runs.{Polled, polled_over, all_changes, run_fits}
use Rattle.sitankulo.specs.Answers.{shape, room, yes}
use Rattle.sitankulo.specs.ClearLayout.{clear_size, clear_bytes}

-- "0, SITANKULO_GIVEN_UP, SITANKULO_SPENT, SITANKULO_TAPE_OVER or SITANKULO_CLOCK_ENDED"
abbrev pub ending_number : Ending → ℕ
ending_number Ready = 0
ending_number GivenUp = 249
ending_number Spent = 250
ending_number TapeOver = 251
ending_number ClockRange = 252

abbrev pub terms_of : ℕ → ℕ → ℕ → ℕ → ℕ → Terms
terms_of pins reset start limit budget =
    record { pins = yes pins; reset = yes reset; start = start; limit = limit; budget = budget }

-- "`report`, 17 bytes: the polls taken in 8, the number of pin changes in 8, and whether a reset is to follow them"
abbrev pub report_size : ℕ
report_size = 17

abbrev pub report_bytes : ℕ → ℕ → Bool → List ℕ
report_bytes polls changes reset = time_bytes polls ++ time_bytes changes ++ (cond reset 1 0 ∷ [])

-- a run, or a refusal by its number
pub data Running : Type 0 where
  refuses : ℕ → Running
  runs : Polled → Running

-- "or 5 (clear), 7"
abbrev pub roomed_run : Terms → Polled → List ℕ → List ℕ → Running
roomed_run t p changes report =
    cond (leb report_size (length report) && run_fits t p (length changes)) (runs p) (refuses room)

abbrev pub run_call : Option BusClear → Terms → List ℕ → List ℕ → List ℕ → List ℕ → Running
run_call None t clocks levels changes report = refuses shape
run_call (Some c) t clocks levels changes report = roomed_run t (polled_over t clocks levels c) changes report

-- the answer, and the lent memories at exit
abbrev pub running_answer : Running → ℕ
running_answer (refuses number) = number
running_answer (runs p) = ending_number p.ending

abbrev pub clear_after : Running → List ℕ → List ℕ
clear_after (refuses number) clear = clear
clear_after (runs p) clear = paste clear 0 (clear_bytes p.clear) clear_size

abbrev pub changes_after : Terms → Running → List ℕ → List ℕ
changes_after t (refuses number) changes = changes
changes_after t (runs p) changes = sets changes 0 (map change_byte (all_changes t p))

abbrev pub report_after : Terms → Running → List ℕ → List ℕ
report_after t (refuses number) report = report
report_after t (runs p) report =
    paste report 0 (report_bytes p.polls (length (all_changes t p)) (t.pins && t.reset)) report_size

-- WHAT THE CALL LEAVES: its answer, and each lent memory as it was and as it is
abbrev pub RunLeft : Terms → Running → ℕ → List ℕ → List ℕ → List ℕ → List ℕ → List ℕ → List ℕ → Type 0
RunLeft t ran r clear clear' changes changes' report report' =
    (r ≡ running_answer ran)
    × (clear' ≡ clear_after ran clear)
    × (changes' ≡ changes_after t ran changes)
    × (report' ≡ report_after t ran report)
