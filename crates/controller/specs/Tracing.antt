-- How the code of the model holds a run, event by event. Private contracts alone cite this.
use Rattle.std.specs.Prelude.{ℕ, ◌+◌, ◌*◌, ◌≤◌, ◌≡◌, List, [], ◌∷◌, ◌++◌, length, Result, Ok, Err}
use Rattle.bus.specs.Events.{Event, start_bit, stop_bit, sent, got}
use Rattle.command.specs.declared.Command.{Command}
use Rattle.command.specs.declared.Command.TheVariants.{Start, Write, Read, ReadNack, Stop, End}
use Rattle.controller.specs.declared.Phase.{Phase}
use Rattle.controller.specs.declared.model.Kind.{Kind}
use Rattle.controller.specs.declared.model.Kind.TheVariants as kind
use Rattle.controller.specs.declared.model.Ending.{Ending}
use Rattle.controller.specs.declared.model.Ending.TheVariants.{Finished}
use Rattle.controller.specs.declared.model.Trace.{Trace}
use Rattle.controller.specs.declared.model.Bench.{Bench}
use Rattle.controller.specs.Rules.{State}
use Rattle.controller.specs.Model.{Sensor, Run, events_of}
use Rattle.controller.specs.Traces.{sent_kind, got_kind, ending_of, left_of}

abbrev pub kind_number : Kind → ℕ
kind_number kind.Start = 0
kind_number kind.Stop = 1
kind_number kind.Sent = 2
kind_number kind.SentRefused = 3
kind_number kind.Got = 4
kind_number kind.GotLast = 5

abbrev pub blank_trace : Trace
blank_trace = record { events = []; received = [] }

-- one event more, of this kind and with this byte
abbrev pub noted : Trace → ℕ → ℕ → Trace
noted t kind byte = record { events = t.events ++ kind ∷ byte ∷ []; received = t.received }

-- one received byte more
abbrev pub stored : Trace → ℕ → Trace
stored t byte = record { events = t.events; received = t.received ++ byte ∷ [] }

-- an event is heard; a byte that was got is stored besides
unfoldable pub heard : Trace → Event → Trace
heard t start_bit = noted t 0 0
heard t stop_bit = noted t 1 0
heard t (sent b a) = noted t (sent_kind a) b
heard t (got b a) = stored (noted t (got_kind a) b) b

unfoldable pub heard_all : Trace → List Event → Trace
heard_all t [] = t
heard_all t (e ∷ es) = heard_all (heard t e) es

-- a run that is over: its ending, all that was heard, and what is left of the sensor's countdown
pub record Traced : Type 0 where
  pub ending : Ending
  pub trace : Trace
  pub refuses : ℕ

-- a run from a trace on
unfoldable pub traced : Trace → Run → Traced
traced t r = record { ending = ending_of r; trace = heard_all t (events_of r); refuses = left_of r }

-- what is left of the sensor
abbrev pub sensor_at : Bench → Sensor
sensor_at b = record { sends = b.sensor.sends.now; refuses = b.sensor.refuses }

-- how a list's run ends, and what is left of the sensor's countdown: stuck or refused, nothing for a list that follows
abbrev pub ending_in : Result Phase Ending → Ending
ending_in (Ok after) = Finished after
ending_in (Err ending) = ending

abbrev pub left_in : Result Phase Ending → Bench → ℕ
left_in (Ok after) b = b.sensor.refuses
left_in (Err ending) b = 0

abbrev pub ended : Result Phase Ending → Bench → Traced
ended result b = record { ending = ending_in result; trace = b.trace; refuses = left_in result b }

-- what follows on a bench: nothing more where the run has ended, else the next
abbrev pub resumed : Result (Unit {0}) Ending → Bench → (Sensor → Run) → Traced
resumed (Ok obeyed) b next = traced b.trace (next (sensor_at b))
resumed (Err ending) b next = ended (Err ending) b

-- the second bench is where the first comes to by doing this: whatever follows, the run is the same
abbrev pub ComesTo : Bench → (Sensor → (Sensor → Run) → Run) → Result (Unit {0}) Ending → Bench → Type 0
ComesTo b does result after = (next : Sensor → Run) → traced b.trace (does (sensor_at b) next) ≡ resumed result after next

-- at most so many events and so many received bytes more
abbrev pub Within : Trace → ℕ → ℕ → Trace → Type 0
Within t events received later =
    (length later.events ≤ length t.events + 2 * events) × (length later.received ≤ length t.received + received)

-- how many FIFO bytes a command sends, how many bytes it receives, and how many events it causes at most: its bytes, or one START or
-- STOP
abbrev pub written_by : Command → ℕ
written_by Start = 0
written_by (Write n) = n
written_by (Read n) = 0
written_by ReadNack = 0
written_by Stop = 0
written_by End = 0

abbrev pub received_by : Command → ℕ
received_by Start = 0
received_by (Write n) = 0
received_by (Read n) = n
received_by ReadNack = 1
received_by Stop = 0
received_by End = 0

abbrev pub events_by : Command → ℕ
events_by c = 1 + written_by c + received_by c

-- the FIFO has the bytes that a command sends, and the trace has room for what it causes
abbrev pub Fits : State → Command → Trace → Type 0
Fits s c t =
    (written_by c ≤ length s.fifo)
    × (length t.events + 2 * events_by c ≤ 144)
    × (length t.received + received_by c ≤ 32)
