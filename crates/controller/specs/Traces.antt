-- A run as numbers and bytes, for a test bench that wants to look at it.
use Rattle.std.specs.Prelude.{ℕ, ◌≡◌, Bool, cond, ◌&&◌, List, [], ◌∷◌, ◌++◌, length, drop, leb, Some, None}
use Rattle.bus.specs.Events.{Acknowledge, ack, nack, Event, start_bit, stop_bit, sent, got}
use Rattle.controller.specs.declared.model.Ending.{Ending}
use Rattle.controller.specs.declared.model.Ending.TheVariants.{Stuck, Refused, Finished}
use Rattle.controller.specs.declared.model.Report.{Report}
use Rattle.controller.specs.Model.{Run, stuck, refused, done, emit, events_of}
use Rattle.controller.specs.Verdicts.{run_one}

-- an event as two bytes: what it is, and the byte that it carries. START is 0, STOP 1; a byte that the controller sent is 2 where it was
-- acknowledged and 3 where not, a byte that it got 4 and 5
abbrev pub sent_kind : Acknowledge → ℕ
sent_kind ack = 2
sent_kind nack = 3

abbrev pub got_kind : Acknowledge → ℕ
got_kind ack = 4
got_kind nack = 5

abbrev pub event_bytes : Event → List ℕ
event_bytes start_bit = 0 ∷ 0 ∷ []
event_bytes stop_bit = 1 ∷ 0 ∷ []
event_bytes (sent b a) = sent_kind a ∷ b ∷ []
event_bytes (got b a) = got_kind a ∷ b ∷ []

unfoldable pub traffic_bytes : List Event → List ℕ
traffic_bytes [] = []
traffic_bytes (e ∷ es) = event_bytes e ++ traffic_bytes es

-- the bytes that the controller received
unfoldable pub received_bytes : List Event → List ℕ
received_bytes [] = []
received_bytes (start_bit ∷ es) = received_bytes es
received_bytes (stop_bit ∷ es) = received_bytes es
received_bytes (sent b a ∷ es) = received_bytes es
received_bytes (got b a ∷ es) = b ∷ received_bytes es

abbrev pub ending_of : Run → Ending
ending_of stuck = Stuck
ending_of refused = Refused
ending_of (done p k) = Finished p
ending_of (emit e r) = ending_of r

-- what is left of the sensor's count to the byte that it refuses: the next list's run goes on with it
abbrev pub left_of : Run → ℕ
left_of stuck = 0
left_of refused = 0
left_of (done p k) = k.refuses
left_of (emit e r) = left_of r

-- both lent outputs have room for what the run gives: so many received bytes, so many bytes of events
abbrev pub trace_fits : Run → ℕ → ℕ → Bool
trace_fits r receivedRoom eventsRoom =
    leb (length (received_bytes (events_of r))) receivedRoom && leb (length (traffic_bytes (events_of r))) eventsRoom

abbrev pub trace_roomless : Report
trace_roomless = record { answer = None; received = 0; events = 0; refuses = 0 }

-- the answer: how the run ended, how many bytes it received and how many events there were; 7 where there is too little room
abbrev pub trace_report : Run → ℕ → ℕ → Report
trace_report r receivedRoom eventsRoom =
    cond (trace_fits r receivedRoom eventsRoom)
    (record {
      answer = Some (ending_of r);
      received = length (received_bytes (events_of r));
      events = length (events_of r);
      refuses = left_of r;
    })
    trace_roomless

-- lent memory at exit: the answer's bytes in front, "bytes past an answer stay"; untouched where there is too little room
abbrev pub laid : Bool → List ℕ → List ℕ → List ℕ
laid fits bytes old = cond fits (bytes ++ drop (length bytes) old) old

-- one list's run, by the words, bytes and numbers that a call is handed
abbrev pub run_of : List ℕ → List ℕ → ℕ → List ℕ → ℕ → Run
run_of words fifo phase sends refuses =
    run_one 32 (record { words = words; fifo = fifo }) phase (record { sends = sends; refuses = refuses })

-- what a call leaves of a run: the report, and the two lent outputs, each as it was and as it is
pub record Reported (r : Run) (report : Report) (received received_after events events_after : List ℕ) : Type 0 where
  pub reported : report ≡ trace_report r (length received) (length events)
  pub received_laid : received_after ≡ laid (trace_fits r (length received) (length events)) (received_bytes (events_of r)) received
  pub events_laid : events_after ≡ laid (trace_fits r (length received) (length events)) (traffic_bytes (events_of r)) events
