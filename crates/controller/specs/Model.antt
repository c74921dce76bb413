-- The controller as a model: what goes over the bus when it runs command lists against a sensor, and how that ends, after 01,
-- "Inspector and controller model".
use Rattle.std.specs.Prelude.{ℕ, zero, suc, cond, List, [], ◌∷◌, length, take, drop, leb, eqb, Option, Some, None}
use Rattle.bus.specs.Events.{Acknowledge, ack, nack, Event, start_bit, stop_bit, sent, got}
use Rattle.bus.specs.Traffic.{next_byte}
use Rattle.command.specs.declared.Command.{Command}
use Rattle.command.specs.declared.Command.TheVariants.{Start, Write, Read, ReadNack, Stop, End}
use Rattle.command.specs.Word.{meaning_of}
use Rattle.controller.specs.declared.Phase.{Phase}
use Rattle.controller.specs.declared.Phase.TheVariants.{Idle, Started, Writing, Reading, ReadDone}
use Rattle.controller.specs.Rules.{State, Effect, halts, goes_on, finishes, effect_of}

-- "A sensor is a list of bytes (255 beyond it) and the number, from 1 over the whole run, of the first written byte it doesn't
-- acknowledge, or none": what is left of it. `refuses` counts down to that byte; 0 is none
pub record Sensor : Type 0 where
  pub sends : List ℕ
  pub refuses : ℕ

-- a run, event by event, up to its end: the controller is stuck; the sensor has refused a byte; or all is done, in a phase, with
-- what is left of the sensor
pub data Run : Type 0 where
  stuck : Run
  refused : Run
  done : Phase → Sensor → Run
  emit : Event → Run → Run

-- written bytes one after another; "such a byte stops the run, which is not stuck"
unfoldable pub put : List ℕ → List ℕ → ℕ → (Sensor → Run) → Run
put [] sends refuses next = next (record { sends = sends; refuses = refuses })
put (b ∷ bytes) sends zero next = emit (sent b ack) (put bytes sends zero next)
put (b ∷ bytes) sends (suc zero) next = emit (sent b nack) refused
put (b ∷ bytes) sends (suc (suc r)) next = emit (sent b ack) (put bytes sends (suc r) next)

-- n received bytes, each answered with a
unfoldable pub get : Acknowledge → ℕ → List ℕ → ℕ → (Sensor → Run) → Run
get a zero sends refuses next = next (record { sends = sends; refuses = refuses })
get a (suc n) sends refuses next = emit (got (next_byte sends) a) (get a n (drop 1 sends) refuses next)

-- what a command does on the bus
unfoldable pub obey : Command → State → Sensor → (Sensor → Run) → Run
obey Start s k next = emit start_bit (next k)
obey (Write n) s k next = put (take n s.fifo) k.sends k.refuses next
obey (Read n) s k next = get ack n k.sends k.refuses next
obey ReadNack s k next = get nack 1 k.sends k.refuses next
obey Stop s k next = emit stop_bit (next k)
obey End s k next = next k

-- a command that its effect allows is obeyed; then the run goes on, or the list is finished
abbrev pub follow : Effect → ((Sensor → Run) → Run) → (State → Sensor → Run) → (Phase → Sensor → Run) → Run
follow halts obeyed on finish = stuck
follow (goes_on s) obeyed on finish = obeyed (on s)
follow (finishes p) obeyed on finish = obeyed (finish p)

-- "Anything else .. is stuck"
abbrev pub meant : Option Command → (Command → Run) → Run
meant None run = stuck
meant (Some c) run = run c

-- "a zero word and the table's end included, is stuck. Words after the finish are not looked at."
unfoldable pub run_from : ℕ → List ℕ → State → Sensor → (Phase → Sensor → Run) → Run
run_from f [] s k finish = stuck
run_from f (word ∷ more) s k finish =
    meant (meaning_of word) (λ c. follow (effect_of f c s) (obey c s k) (λ t j. run_from f more t j finish) finish)

-- a list: its words, and the bytes in its FIFO
pub record Commands : Type 0 where
  pub words : List ℕ
  pub fifo : List ℕ

-- "At most 32 FIFO bytes may be given."
unfoldable pub run_list : ℕ → Commands → Phase → Sensor → (Phase → Sensor → Run) → Run
run_list f l phase k finish =
    cond (leb (length l.fifo) f)
    (run_from f l.words (record { phase = phase; fifo = l.fifo; received = 0 }) k finish)
    stuck

-- several lists in turn, the sensor's counts going on
unfoldable pub run_lists : ℕ → List Commands → Phase → Sensor → Run
run_lists f [] phase k = done phase k
run_lists f (l ∷ ls) phase k = run_list f l phase k (λ p j. run_lists f ls p j)

-- "Phases: Idle, Started, Writing, Reading, ReadDone, numbered 0 to 4; another number is stuck."
abbrev pub phase_number : Phase → ℕ
phase_number Idle = 0
phase_number Started = 1
phase_number Writing = 2
phase_number Reading = 3
phase_number ReadDone = 4

abbrev pub phase_numbered : ℕ → Option Phase
phase_numbered n =
    cond (eqb n 0) (Some Idle)
    (cond (eqb n 1) (Some Started)
    (cond (eqb n 2) (Some Writing) (cond (eqb n 3) (Some Reading) (cond (eqb n 4) (Some ReadDone) None))))

unfoldable pub in_phase : ℕ → (Phase → Run) → Run
in_phase n run =
    cond (eqb n 0) (run Idle)
    (cond (eqb n 1) (run Started) (cond (eqb n 2) (run Writing) (cond (eqb n 3) (run Reading) (cond (eqb n 4) (run ReadDone) stuck))))

-- the events of a run
unfoldable pub events_of : Run → List Event
events_of stuck = []
events_of refused = []
events_of (done p k) = []
events_of (emit e r) = e ∷ events_of r

-- how a run ends: `stuck`, `refused` or `done`
unfoldable pub end_of : Run → Run
end_of stuck = stuck
end_of refused = refused
end_of (done p k) = done p k
end_of (emit e r) = end_of r
