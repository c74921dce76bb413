-- A run of the bus clear over a tape of samples, after 01, "Bus clear".
use Rattle.std.specs.Prelude.{ℕ, zero, suc, ◌-◌, ◌≡◌, Bool, false, cond, not, ◌&&◌, List, [], ◌∷◌, ◌++◌, map, length, leb, ltb, eqb, Some, None}
use Rattle.std.proofs.lemmas.List.Edits.{sets}
use Rattle.bus_clear.specs.declared.Pins.TheVariants.{SclHighSdaHigh}
use Rattle.bus_clear.specs.declared.BusClear.{BusClear}
use Rattle.bus_clear.specs.declared.run.Terms.{Terms}
use Rattle.bus_clear.specs.declared.run.Polls.{Polls}
use Rattle.bus_clear.specs.declared.run.Report.{Report}
use Rattle.bus_clear.specs.declared.Answer.{Answer}
use Rattle.bus_clear.specs.declared.Answer.TheVariants as answer
use Rattle.bus_clear.specs.declared.run.Ending.{Ending}
use Rattle.bus_clear.specs.declared.run.Ending.TheVariants.{Ready, GivenUp, Spent, TapeOver, ClockRange}
use Rattle.bus_clear.specs.Pins.{Change, changes_of, change_byte, listed_with}
use Rattle.bus_clear.specs.Clear.{step_of}

-- "a tape of clock and SDA samples"
pub record Sample : Type 0 where
  pub clock : ℕ
  pub sda : Bool

-- as lent: clock readings, and a byte a sample for SDA, 0 is low; as long as the shorter of the two
unfoldable pub tape_of : List ℕ → List ℕ → List Sample
tape_of [] levels = []
tape_of (t ∷ clocks) [] = []
tape_of (t ∷ clocks) (level ∷ levels) = record { clock = t; sda = not (eqb level 0) } ∷ tape_of clocks levels

-- how the polling went: how it ended, how many polls were taken, the record that the last poll left, and the pin changes in order
pub record Polled : Type 0 where
  pub ending : Ending
  pub polls : ℕ
  pub clear : BusClear
  pub changes : List Change

abbrev pub ends : BusClear → Ending → Polled
ends c e = record { ending = e; polls = 0; clear = c; changes = [] }

-- one poll more in front: counted, and its changes come first
abbrev pub after : List Change → Polled → Polled
after changes p = record { ending = p.ending; polls = suc p.polls; clear = p.clear; changes = changes ++ p.changes }

-- "gives up once elapsed time exceeds the caller's limit, tested after a pending poll by its sample; a clock behind its start has elapsed 0"
abbrev pub exceeded : Terms → ℕ → Bool
exceeded t now = ltb t.limit (now - t.start)

-- "After it: ready, then given up. A poll that would give 13 ends the run .., is not counted, and leaves the record as the last poll did."
abbrev pub answered : Answer → BusClear → BusClear → Bool → Polled → Polled
answered answer.Ready c next late more = after [] (ends next Ready)
answered (answer.Pending p) c next late more = after (changes_of p) (cond late (ends next GivenUp) more)
answered answer.ClockRange c next late more = ends c ClockRange

-- "Before each poll: polls spent, then tape over."
unfoldable pub poll_all : Terms → ℕ → List Sample → BusClear → Polled
poll_all t zero tape c = ends c Spent
poll_all t (suc budget) [] c = ends c TapeOver
poll_all t (suc budget) (s ∷ tape) c =
    answered (step_of c t.pins s.clock s.sda).answer c (step_of c t.pins s.clock s.sda).next
    (exceeded t s.clock) (poll_all t budget tape (step_of c t.pins s.clock s.sda).next)

-- over a lent tape
abbrev pub polled_over : Terms → List ℕ → List ℕ → BusClear → Polled
polled_over t clocks levels c = poll_all t t.budget (tape_of clocks levels) c

-- the same with the changes counted
abbrev pub counted_of : Polled → Polls
counted_of p = record { ending = p.ending; polls = p.polls; clear = p.clear; changes = length p.changes }

-- the pin changes of the first n polls, by themselves
abbrev pub made_by : Answer → List Change
made_by answer.Ready = []
made_by (answer.Pending p) = changes_of p
made_by answer.ClockRange = []

unfoldable pub made_in : Bool → ℕ → List Sample → BusClear → List Change
made_in pins zero tape c = []
made_in pins (suc n) [] c = []
made_in pins (suc n) (s ∷ tape) c =
    made_by (step_of c pins s.clock s.sda).answer ++ made_in pins n tape (step_of c pins s.clock s.sda).next

-- all of them are laid, from the first place on
abbrev pub Laid : ℕ → List ℕ → List ℕ → List Change → Type 0
Laid at old new changes = (at ≡ length changes) × (new ≡ sets old 0 (map change_byte changes))

-- "At any end, with pins, release SCL, then SDA, then reset if asked; without pins, nothing."
abbrev pub releases : Bool → List Change
releases pins = changes_of (listed_with pins SclHighSdaHigh)

-- THE RUN: all pin changes in order, the release included
abbrev pub all_changes : Terms → Polled → List Change
all_changes t p = p.changes ++ releases t.pins

-- the lent memory has room for a byte each
abbrev pub run_fits : Terms → Polled → ℕ → Bool
run_fits t p room = leb (length (all_changes t p)) room

abbrev pub run_roomless : BusClear → Report
run_roomless c = record { answer = None; polls = 0; clear = c; changes = 0; reset = false }

-- what is reported: 7, with nothing done, where there is too little room
abbrev pub run_report : Terms → BusClear → Polled → ℕ → Report
run_report t c p room =
    cond (run_fits t p room)
    (record {
      answer = Some p.ending;
      polls = p.polls;
      clear = p.clear;
      changes = length (all_changes t p);
      reset = t.pins && t.reset;
    })
    (run_roomless c)

-- lent memory at exit: the changes as bytes in front, "bytes past an answer stay"; untouched where there is too little room
abbrev pub laid : Terms → Polled → List ℕ → List ℕ
laid t p old = cond (run_fits t p (length old)) (sets old 0 (map change_byte (all_changes t p))) old
