-- The bus clear as predicates over a step and over a run, and clears that are wrong.
use Rattle.std.specs.Prelude.{ℕ, suc, ◌+◌, ◌≡◌, Bool, true, false, List, [], ◌∷◌, ◌++◌, replicate}
use Rattle.bus_clear.specs.declared.Pins.TheVariants.{Still}
use Rattle.bus_clear.specs.declared.State.{State}
use Rattle.bus_clear.specs.declared.State.TheVariants.{Idle, SendStop, SendClock}
use Rattle.bus_clear.specs.declared.BusClear.{BusClear}
use Rattle.bus_clear.specs.declared.Answer.{Answer}
use Rattle.bus_clear.specs.declared.Answer.TheVariants.{Ready, Pending, ClockRange}
use Rattle.bus_clear.specs.declared.Stepped.{Stepped}
use Rattle.bus_clear.specs.declared.run.Terms.{Terms}
use Rattle.bus_clear.specs.declared.run.Report.{Report}
use Rattle.bus_clear.specs.Pins.{Change, scl, sda}
use Rattle.bus_clear.specs.Clear.{hold, fresh_of, step_of}
use Rattle.bus_clear.specs.Runs.{Sample, polled_over, made_by, run_fits, run_report}

-- a step: the record, whether there are pins, the clock, what SDA reads
abbrev pub ClearStep : Type 0
ClearStep = BusClear → Bool → ℕ → Bool → Stepped

-- every sample of a tape polled, with pins: the record that is left, and the pin changes
unfoldable pub polled_with : ClearStep → List Sample → BusClear → BusClear
polled_with step [] c = c
polled_with step (s ∷ tape) c = polled_with step tape (step c true s.clock s.sda).next

unfoldable pub made_with : ClearStep → List Sample → BusClear → List Change
made_with step [] c = []
made_with step (s ∷ tape) c =
    made_by (step c true s.clock s.sda).answer ++ made_with step tape (step c true s.clock s.sda).next

-- samples with these levels of SDA, their clocks just far enough apart for every poll to act
unfoldable pub sampled : ℕ → List Bool → List Sample
sampled now [] = []
sampled now (level ∷ levels) = record { clock = now; sda = level } ∷ sampled (now + hold) levels

unfoldable pub rises : List Change → ℕ
rises [] = 0
rises (scl true ∷ cs) = suc (rises cs)
rises (scl false ∷ cs) = rises cs
rises (sda level ∷ cs) = rises cs

unfoldable pub falls : List Change → ℕ
falls [] = 0
falls (scl true ∷ cs) = falls cs
falls (scl false ∷ cs) = suc (falls cs)
falls (sda level ∷ cs) = falls cs

-- K10, SDA always low
abbrev pub always_low : ℕ → List Sample
always_low polls = sampled 0 (replicate polls false)

abbrev pub fresh : BusClear
fresh = (fresh_of true 0).clear

-- "SDA always low: Idle after 20 acting polls, 9 falls, 10 rises of SCL."
pub record ClearsTheBus (step : ClearStep) : Type 0 where
  pub not_before : (polled_with step (always_low 19) fresh).state ≡ SendStop
  pub idle : (polled_with step (always_low 20) fresh).state ≡ Idle
  pub nine_falls : falls (made_with step (always_low 20) fresh) ≡ 9
  pub ten_rises : rises (made_with step (always_low 20) fresh) ≡ 10

-- WRONG: goes through the states and moves no pin
abbrev pub silent : Answer → Answer
silent Ready = Ready
silent (Pending p) = Pending Still
silent ClockRange = ClockRange

abbrev pub moves_no_pin : ClearStep
moves_no_pin c pins now level =
    record { next = (step_of c pins now level).next; answer = silent (step_of c pins now level).answer }

-- WRONG: does its first step, and waits ever after
abbrev pub only_from : State → Stepped → Stepped → Stepped
only_from Idle first other = other
only_from SendStop first other = other
only_from (SendClock n true) first other = other
only_from (SendClock n false) first other = first

abbrev pub first_step_only : ClearStep
first_step_only c pins now level = only_from c.state (step_of c pins now level) (record { next = c; answer = Pending Still })

-- a run: its terms, the tape, the record, and the room for its pin changes
abbrev pub Runner : Type 0
Runner = Terms → List ℕ → List ℕ → BusClear → ℕ → Report

-- what `run` returns, by its contract
abbrev pub our_run : Runner
our_run t clocks levels c room = run_report t c (polled_over t clocks levels c) room

-- "the reported count equals the definition's steps over the sample tape", wherever there is room to report
abbrev pub CountsPolls : Runner → Type 0
CountsPolls run =
    (t : Terms) (clocks levels : List ℕ) (c : BusClear) (room : ℕ)
    → run_fits t (polled_over t clocks levels c) room ≡ true
    → (run t clocks levels c room).polls ≡ (polled_over t clocks levels c).polls

-- WRONG: reports a made-up number of polls
abbrev pub made_up : ℕ → Runner
made_up n t clocks levels c room =
    record {
      answer = (our_run t clocks levels c room).answer;
      polls = n;
      clear = (our_run t clocks levels c room).clear;
      changes = (our_run t clocks levels c room).changes;
      reset = (our_run t clocks levels c room).reset;
    }
