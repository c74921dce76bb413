-- Laws of a trace, for citing: what it says of a run in the end.
-- Assumes nothing.
use Rattle.std.specs.Prelude.{Some, Result}
use Prim.Native.Nat.{ℕ, ◌*◌, ◌/◌, ◌≤◌, ◌<◌}
use native.Mathlib.Omega.{arith}
use mathlib.Core.Path.{◌≡◌, refl, sym, ap, ◌∙◌}
use mathlib.Core.Bool.{true, false, and-false}
use mathlib.Core.List.{List, [], ◌∷◌, ◌++◌, append-nil, append_assoc}
use lib.ListN.{length, length-append}
use lib.Dec.{leb}
use borrow.Author.Tests.{le-leb, lt-leb}
use Rattle.bus.specs.Events.{Event, start_bit, stop_bit, sent, got}
use Rattle.controller.specs.declared.Phase.{Phase}
use Rattle.controller.specs.declared.model.Ending.{Ending}
use Rattle.controller.specs.declared.model.Trace.{Trace}
use Rattle.controller.specs.declared.model.Bench.{Bench}
use Rattle.controller.specs.Model.{Run, events_of}
use Rattle.controller.specs.Traces.{Reported, trace_roomless, event_bytes, traffic_bytes, received_bytes, ending_of, left_of, trace_fits, laid}
use Rattle.controller.specs.Tracing.{blank_trace, heard, heard_all, traced, ending_in, left_in, ended}

-- what a trace holds once events are heard: their bytes, one after another
heard_events : (t : Trace) (e : Event) → (heard t e).events ≡ t.events ++ event_bytes e
unfolding heard
heard_events t start_bit = refl
heard_events t stop_bit = refl
heard_events t (sent b a) = refl
heard_events t (got b a) = refl

all_events : (t : Trace) (es : List Event) → (heard_all t es).events ≡ t.events ++ traffic_bytes es
unfolding heard_all traffic_bytes
all_events t [] = sym (append-nil t.events)
all_events t (e ∷ es) =
    all_events (heard t e) es ∙ rw heard_events (append_assoc t.events (event_bytes e) (traffic_bytes es))

all_received : (t : Trace) (es : List Event) → (heard_all t es).received ≡ t.received ++ received_bytes es
unfolding heard_all heard received_bytes
all_received t [] = sym (append-nil t.received)
all_received t (start_bit ∷ es) = all_received (heard t start_bit) es
all_received t (stop_bit ∷ es) = all_received (heard t stop_bit) es
all_received t (sent b a ∷ es) = all_received (heard t (sent b a)) es
all_received t (got b a ∷ es) = all_received (heard t (got b a)) es ∙ append_assoc t.received (b ∷ []) (received_bytes es)

traffic_length : (es : List Event) → length (traffic_bytes es) ≡ length es * 2
unfolding traffic_bytes
traffic_length [] = refl
traffic_length (e ∷ es) = omega (arith, length-append (event_bytes e) (traffic_bytes es), two e, traffic_length es)
  where
    two : (e : Event) → length (event_bytes e) ≡ 2
    two start_bit = refl
    two stop_bit = refl
    two (sent b a) = refl
    two (got b a) = refl

-- what a bench says of a run that it tells
module _ (result : Result Phase Ending) (b : Bench) (r : Run) (tells : ended result b ≡ traced blank_trace r) where
  told_events : b.trace.events ≡ traffic_bytes (events_of r)
  unfolding traced
  told_events = ap (λ x. x.trace.events) tells ∙ all_events blank_trace (events_of r)

  told_received : b.trace.received ≡ received_bytes (events_of r)
  unfolding traced
  told_received = ap (λ x. x.trace.received) tells ∙ all_received blank_trace (events_of r)

  -- so the trace holds two bytes for each event, and each received byte
  pub events_held : length b.trace.events ≡ length (events_of r) * 2
  events_held = ap length told_events ∙ traffic_length (events_of r)

  pub received_held : length b.trace.received ≡ length (received_bytes (events_of r))
  received_held = ap length told_received

  -- too little room in either output, and room in both
  module _ (received events : List ℕ) where
    pub short_received : length received < length b.trace.received → Reported r trace_roomless received received events events
    short_received h =
        let none : trace_fits r (length received) (length events) ≡ false
        = rw (lt-leb (length (received_bytes (events_of r))) (length received) (omega (arith, received_held))) in
        record { reported = rw none; received_laid = rw none; events_laid = rw none }

    pub short_events : length events < length b.trace.events → Reported r trace_roomless received received events events
    short_events h =
        let none : trace_fits r (length received) (length events) ≡ false
        = rw (lt-leb (length (traffic_bytes (events_of r))) (length events) (omega (arith, events_held, traffic_length (events_of r))))
        (and-false (leb (length (received_bytes (events_of r))) (length received))) in
        record { reported = rw none; received_laid = rw none; events_laid = rw none }

    pub reports :
        length b.trace.received ≤ length received
        → length b.trace.events ≤ length events
        → Reported r
        (record {
          answer = Some (ending_in result);
          received = length b.trace.received;
          events = length b.trace.events / 2;
          refuses = left_in result b;
        })
        received (laid true b.trace.received received)
        events (laid true b.trace.events events)
    unfolding traced
    reports enough room =
        let fits : trace_fits r (length received) (length events) ≡ true
        = rw (
          le-leb (length (received_bytes (events_of r))) (length received) (omega (arith, received_held)),
          le-leb (length (traffic_bytes (events_of r))) (length events) (omega (arith, events_held, traffic_length (events_of r))),
        ) in
        let ending : ending_in result ≡ ending_of r = ap (λ x. x.ending) tells in
        let refuses : left_in result b ≡ left_of r = ap (λ x. x.refuses) tells in
        let count : length b.trace.events / 2 ≡ length (events_of r) = omega (arith, events_held) in
        record {
          reported = rw (fits, ending, refuses, count, told_received);
          received_laid = rw (fits, told_received);
          events_laid = rw (fits, told_events);
        }
