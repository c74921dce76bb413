-- Laws of runs on the model, for citing: a list causes few events and receives few bytes.
-- Assumes nothing.
use Rattle.std.specs.Prelude.{Option, Some, None}
use Prim.Native.Nat.{ℕ, zero, suc, ◌+◌, ◌-◌, ◌≤◌}
use native.Mathlib.Omega.{arith}
use mathlib.Core.Path.{◌≡◌, ◌∙◌}
use mathlib.Core.Bool.{◌&&◌}
use mathlib.Core.List.{List, [], ◌∷◌}
use lib.ListN.{length, take, drop, get_or, length-drop}
use lib.Seq.{length-take-le}
use lib.Dec.{leb, eqb}
use borrow.Author.Tests.{leb-true, eq-eqb}
use Rattle.bus.specs.Events.{Acknowledge, ack, nack}
use Rattle.command.specs.declared.Command.{Command}
use Rattle.command.specs.declared.Command.TheVariants.{Start, Write, Read, ReadNack, Stop, End}
use Rattle.command.specs.Word.{meaning_of}
use Rattle.controller.specs.declared.Phase.{Phase}
use Rattle.controller.specs.declared.Phase.TheVariants.{Idle, Started, Writing, Reading, ReadDone}
use Rattle.controller.specs.Rules.{State, Effect, halts, goes_on, finishes, effect_of, may_start, may_write, may_read, may_stop, may_end, after_write}
use Rattle.controller.specs.Model.{Sensor, Run, stuck, done, put, get, obey, follow, meant, run_from, Commands, run_list, in_phase, events_of}
use Rattle.controller.specs.declared.model.Report.{Report}
use Rattle.controller.specs.Traces.{received_bytes, run_of, trace_fits, trace_report, Reported}
use Rattle.wire.specs.Numbers.{words_of}
use Rattle.sitankulo.specs.Modelling.{report_answer, run_asked, ModelLeft}
use Rattle.sitankulo.proofs.LawsTests.{by_test, and_left, and_right}

-- at most so many events, and so many received bytes
abbrev Few : ℕ → ℕ → Run → Type 0
Few events received r = (length (events_of r) ≤ events) × (length (received_bytes (events_of r)) ≤ received)

put_few :
    (bytes sends : List ℕ) (refuses : ℕ) (next : Sensor → Run) (e g : ℕ)
    → ((k : Sensor) → Few e g (next k))
    → Few (length bytes + e) g (put bytes sends refuses next)
unfolding put events_of received_bytes
put_few [] sends refuses next e g h = let more = h (record { sends = sends; refuses = refuses }) in (omega arith, more.1)
put_few (b ∷ bytes) sends zero next e g h = let more = put_few bytes sends zero next e g h in (omega arith, more.1)
put_few (b ∷ bytes) sends (suc zero) next e g h = (omega arith, omega arith)
put_few (b ∷ bytes) sends (suc (suc r)) next e g h = let more = put_few bytes sends (suc r) next e g h in (omega arith, more.1)

get_few :
    (a : Acknowledge) (n : ℕ) (sends : List ℕ) (refuses : ℕ) (next : Sensor → Run) (e g : ℕ)
    → ((k : Sensor) → Few e g (next k))
    → Few (n + e) (n + g) (get a n sends refuses next)
unfolding get events_of received_bytes
get_few a zero sends refuses next e g h = let more = h (record { sends = sends; refuses = refuses }) in (omega arith, omega arith)
get_few a (suc n) sends refuses next e g h = let more = get_few a n (drop 1 sends) refuses next e g h in (omega arith, omega arith)

-- how many words and bytes are left bounds what is still to come
abbrev left : ℕ → State → ℕ
left words s = words + length s.fifo + (32 - s.received)

-- a command at a state, where what follows it is bounded so
module _ (words : ℕ) (s : State) (k : Sensor) (on : State → Sensor → Run) (h : s.received ≤ 32)
    (follows : (t : State) (j : Sensor) → t.received ≤ 32 → Few (left words t) (32 - t.received) (on t j)) where
  abbrev Bounded : Command → Effect → Type 0
  Bounded c t = Few (left (suc words) s) (32 - s.received) (follow t (obey c s k) on done)

  received_few :
      (a : Acknowledge) (n : ℕ) (after : Phase)
      → s.received + n ≤ 32
      → Few (left (suc words) s) (32 - s.received)
      (get a n k.sends k.refuses (on (record { phase = after; fifo = s.fifo; received = s.received + n })))
  received_few a n after fits =
      let t : State = record { phase = after; fifo = s.fifo; received = s.received + n } in
      let more = get_few a n k.sends k.refuses (on t) (left words t) (32 - (s.received + n)) (λ j. follows t j fits) in
      (omega arith, omega arith)

  command_few : (c : Command) → Bounded c (effect_of 32 c s)
  unfolding effect_of obey events_of received_bytes
  command_few Start =
      let t : State = record { phase = Started; fifo = s.fifo; received = s.received } in
      by_test (Bounded Start) (may_start s.phase) (goes_on t) halts
      (λ e. let more = follows t k h in (omega arith, more.1)) (λ e. (omega arith, omega arith))
  command_few (Write n) =
      let first = get_or s.fifo 0 0 in
      let t : State = record { phase = after_write first s.phase; fifo = drop n s.fifo; received = s.received } in
      by_test (Bounded (Write n)) (leb n (length s.fifo) && may_write n first s.phase) (goes_on t) halts
      (λ e.
      let fits : n ≤ length s.fifo = leb-true n (length s.fifo) (and_left _ _ e) in
      let more = put_few (take n s.fifo) k.sends k.refuses (on t) (left words t) (32 - s.received) (λ j. follows t j h) in
      (omega (arith, length-take-le n s.fifo fits, length-drop n s.fifo), more.1))
      (λ e. (omega arith, omega arith))
  command_few (Read n) =
      let t : State = record { phase = Reading; fifo = s.fifo; received = s.received + n } in
      by_test (Bounded (Read n)) (may_read s.phase && leb (s.received + n) 32) (goes_on t) halts
      (λ e. received_few ack n Reading (leb-true (s.received + n) 32 (and_right (may_read s.phase) _ e))) (λ e. (omega arith, omega arith))
  command_few ReadNack =
      let t : State = record { phase = ReadDone; fifo = s.fifo; received = s.received + 1 } in
      by_test (Bounded ReadNack) (may_read s.phase && leb (s.received + 1) 32) (goes_on t) halts
      (λ e. received_few nack 1 ReadDone (leb-true (s.received + 1) 32 (and_right (may_read s.phase) _ e))) (λ e. (omega arith, omega arith))
  command_few Stop =
      by_test (Bounded Stop) (may_stop s.phase && eqb (length s.fifo) 0) (finishes Idle) halts
      (λ e. (omega arith, omega arith)) (λ e. (omega arith, omega arith))
  command_few End =
      by_test (Bounded End) (may_end s.phase && eqb (length s.fifo) 0) (finishes s.phase) halts
      (λ e. (omega arith, omega arith)) (λ e. (omega arith, omega arith))

  word_few :
      (m : Option Command)
      → Few (left (suc words) s) (32 - s.received) (meant m (λ c. follow (effect_of 32 c s) (obey c s k) on done))
  unfolding events_of received_bytes
  word_few None = (omega arith, omega arith)
  word_few (Some c) = command_few c

run_few :
    (words : List ℕ) (s : State) (k : Sensor)
    → s.received ≤ 32
    → Few (left (length words) s) (32 - s.received) (run_from 32 words s k done)
unfolding run_from events_of received_bytes
run_few [] s k h = (omega arith, omega arith)
run_few (word ∷ words) s k h =
    word_few (length words) s k (λ t j. run_from 32 words t j done) h (λ t j g. run_few words t j g) (meaning_of word)

list_few : (l : Commands) (p : Phase) (k : Sensor) → length l.words ≤ 8 → Few 72 32 (run_list 32 l p k done)
unfolding run_list events_of received_bytes
list_few l p k h =
    by_test (Few 72 32) (leb (length l.fifo) 32) _ stuck
    (λ e.
    let fits : length l.fifo ≤ 32 = leb-true (length l.fifo) 32 e in
    let all = run_few l.words (record { phase = p; fifo = l.fifo; received = 0 }) k (omega arith) in
    (omega arith, omega arith))
    (λ e. (omega arith, omega arith))

phase_few : (run : Phase → Run) → ((p : Phase) → Few 72 32 (run p)) → (n : ℕ) → Few 72 32 (in_phase n run)
unfolding in_phase events_of received_bytes
phase_few run h n =
    by_test (Few 72 32) (eqb n 0) _ _ (λ e. h Idle)
    (λ e. by_test (Few 72 32) (eqb n 1) _ _ (λ e. h Started)
    (λ e. by_test (Few 72 32) (eqb n 2) _ _ (λ e. h Writing)
    (λ e. by_test (Few 72 32) (eqb n 3) _ _ (λ e. h Reading)
    (λ e. by_test (Few 72 32) (eqb n 4) _ _ (λ e. h ReadDone) (λ e. (omega arith, omega arith))))))

-- "at most 32" received bytes, "at most 72" events
pub few_run : (words fifo : List ℕ) (phase : ℕ) (sends : List ℕ) (refuses : ℕ) → length words ≤ 8 → Few 72 32 (run_of words fifo phase sends refuses)
few_run words fifo phase sends refuses h =
    phase_few _
    (λ p. list_few (record { words = words; fifo = fifo }) p (record { sends = sends; refuses = refuses }) h) phase

few_report : (r : Run) → Few 72 32 r → (a b : ℕ) → ((trace_report r a b).received ≤ 32) × ((trace_report r a b).events ≤ 72)
few_report r h a b =
    by_test (λ (t : Report). (t.received ≤ 32) × (t.events ≤ 72)) (trace_fits r a b) _ _
    (λ e. (h.1, h.0)) (λ e. (omega arith, omega arith))

-- what the call leaves
module _ (words fifo : List ℕ) (phase : ℕ) (sends : List ℕ) (refuses : ℕ) (received events : List ℕ) where
  abbrev asked : Run
  asked = run_asked words fifo phase sends refuses

  module _ (w : List ℕ) (e : w ≡ words_of words) (report : Report) (received' events' : List ℕ)
      (told : Reported (run_of w fifo phase sends refuses) report received received' events events') where
    pub few_told : (report.received ≤ 32) × (report.events ≤ 72)
    few_told = rw told.reported (few_report _ (few_run w fifo phase sends refuses (rw e (omega arith))) _ _)

    pub ran : length words ≡ 32 → (r : ℕ) → r ≡ report_answer report → ModelLeft words asked r received received' events events'
    unfolding run_asked
    ran h r q =
        let f = eq-eqb (length words) 32 h in
        (q ∙ rw (told.reported, e, f), told.received_laid ∙ rw (e, f), told.events_laid ∙ rw (e, f))
