-- 01, "Numbers of refusals": "No refusal writes .. a lent output of the C layer".
-- Assumes nothing.
use Rattle.std.specs.Prelude.{Option, Some, None, Err}
use Prim.Native.Nat.{ℕ, ◌+◌, ◌*◌, ◌%◌, ◌≤◌}
use native.Mathlib.Omega.{arith}
use mathlib.Core.Path.{◌≡◌}
use mathlib.Core.Bool.{Bool, true, false, cond, ◌&&◌}
use mathlib.Core.List.{List, ◌++◌}
use lib.ListN.{length, drop}
use lib.Seq.{paste}
use lib.Dec.{leb, eqb}
use Rattle.refusal.specs.declared.Refusal.{Refusal}
use Rattle.refusal.specs.declared.Refusal.TheVariants as refusal
use Rattle.wire.specs.Numbers.{word_bytes}
use Rattle.list.specs.declared.Built.{Built}
use Rattle.bus_clear.specs.declared.Pins.{Pins}
use Rattle.bus_clear.specs.declared.Pins.TheVariants.{Still}
use Rattle.bus_clear.specs.declared.BusClear.{BusClear}
use Rattle.bus_clear.specs.declared.Answer.{Answer}
use Rattle.bus_clear.specs.declared.Answer.TheVariants as answer
use Rattle.bus_clear.specs.declared.run.Ending.{Ending}
use Rattle.bus_clear.specs.declared.run.Ending.TheVariants.{Ready, GivenUp, Spent, TapeOver, ClockRange}
use Rattle.bus_clear.specs.declared.run.Terms.{Terms}
use Rattle.bus_clear.specs.Pins.{change_bytes}
use Rattle.bus_clear.specs.Clear.{fresh_of, step_of}
use Rattle.controller.specs.declared.model.Ending.{Ending as ModelEnding}
use Rattle.controller.specs.declared.model.Ending.TheVariants.{Stuck, Refused, Finished}
use Rattle.controller.specs.declared.model.Report.{Report}
use Rattle.controller.specs.Model.{Run, events_of}
use Rattle.controller.specs.Traces.{ending_of, left_of, traffic_bytes, received_bytes, trace_fits, trace_roomless}
use Rattle.sitankulo.specs.Answers.{packed, yes}
use Rattle.sitankulo.specs.Lists.{list_number, handed_out, ListLeft}
use Rattle.sitankulo.specs.ClearLayout.{decoded_of}
use Rattle.sitankulo.specs.Clears.{Told, tells, poll_told, step_told, roomed, fresh_call, step_call, ClearLeft}
use Rattle.sitankulo.specs.ClearRuns.{Running, refuses, runs, ending_number, RunLeft}
use Rattle.sitankulo.specs.Modelling.{ending_answer, report_answer, whole, ModelLeft}
use Rattle.sitankulo.specs.Names.{told_answer, told_text}
use Rattle.sitankulo.proofs.LawsTests.{by_test}

-- a refusal in bits 0 to 7 of an answer
abbrev pub Refusing : ℕ → Type 0
Refusing r = (1 ≤ r % 256) × (r % 256 ≤ 14)

-- one command list
pub list_refusal_writes_nothing :
    (b : Built) (r : ℕ) (words words' fifo fifo' : List ℕ)
    → ListLeft b r words words' fifo fifo'
    → Refusing r
    → (words' ≡ words) × (fifo' ≡ fifo)
list_refusal_writes_nothing b r words words' fifo fifo' left given =
    by_handing (paste words 0 (word_bytes b.list.words) 32) (paste fifo 0 b.list.fifo b.list.count) b.list.count
    (list_number b (length words) (length fifo)) (handed_out b words fifo) left.0 left.1 left.2
  where
    by_handing :
        (x y : List ℕ) (n m : ℕ) (t : Bool)
        → r ≡ cond t (packed 0 n) m
        → words' ≡ cond t x words
        → fifo' ≡ cond t y fifo
        → (words' ≡ words) × (fifo' ≡ fifo)
    by_handing x y n m true p q s = absurd (omega arith)
    by_handing x y n m false p q s = (q, s)

-- a fresh clear and a poll
module _ (r : ℕ) (given : Refusing r) (clear clear' changes changes' : List ℕ) where
  abbrev Kept : Told → Type 0
  Kept t = ClearLeft t r clear clear' changes changes' → (clear' ≡ clear) × (changes' ≡ changes)

  refusing_kept : (x : Refusal) → Kept (Err x)
  refusing_kept x left = (left.1, left.2)

  roomed_kept : (number : ℕ) (next : BusClear) (pins : Pins) → ((d : ℕ) → r ≡ packed number d → ⊥) → Kept (roomed (tells number next pins) clear changes)
  roomed_kept number next pins never =
      by_test Kept (leb 10 (length clear) && leb (length (change_bytes pins)) (length changes)) (tells number next pins) (Err refusal.Room)
      (λ t left. absurd (never (length (change_bytes pins)) left.0)) (λ t. refusing_kept refusal.Room)

  free : (d : ℕ) → r ≡ packed 0 d → ⊥
  free d e = omega arith

  waits : (d : ℕ) → r ≡ packed 255 d → ⊥
  waits d e = omega arith

  poll_kept : (told : Answer) (next : BusClear) → Kept (roomed (poll_told told next) clear changes)
  poll_kept answer.Ready next = roomed_kept 0 next Still free
  poll_kept (answer.Pending pins) next = roomed_kept 255 next pins waits
  poll_kept answer.ClockRange next = refusing_kept refusal.ClockRange

  step_kept : (d : Option BusClear) (pins time sda : ℕ) → Kept (roomed (step_told d pins time sda) clear changes)
  step_kept None pins time sda = refusing_kept refusal.Shape
  step_kept (Some c) pins time sda = poll_kept (step_of c (yes pins) time (yes sda)).answer (step_of c (yes pins) time (yes sda)).next

  pub fresh_refusal_writes_nothing :
      (pins time : ℕ)
      → ClearLeft (fresh_call clear pins time changes) r clear clear' changes changes'
      → (clear' ≡ clear) × (changes' ≡ changes)
  fresh_refusal_writes_nothing pins time = roomed_kept 0 (fresh_of (yes pins) time).clear (fresh_of (yes pins) time).pins free

  pub step_refusal_writes_nothing :
      (pins time sda : ℕ)
      → ClearLeft (step_call clear pins time sda changes) r clear clear' changes changes'
      → (clear' ≡ clear) × (changes' ≡ changes)
  step_refusal_writes_nothing pins time sda = step_kept (decoded_of clear) pins time sda

-- a run of the clear
ended : (e : Ending) → Refusing (ending_number e) → ⊥
ended Ready given = omega arith
ended GivenUp given = omega arith
ended Spent given = omega arith
ended TapeOver given = omega arith
ended ClockRange given = omega arith

pub run_refusal_writes_nothing :
    (t : Terms) (ran : Running) (r : ℕ) (clear clear' changes changes' report report' : List ℕ)
    → RunLeft t ran r clear clear' changes changes' report report'
    → Refusing r
    → (clear' ≡ clear) × (changes' ≡ changes) × (report' ≡ report)
run_refusal_writes_nothing t (refuses number) r clear clear' changes changes' report report' left given = (left.1, left.2, left.3)
run_refusal_writes_nothing t (runs p) r clear clear' changes changes' report report' left given =
    absurd (ended p.ending (rw left.0 at given))

-- a run on the model
abbrev told : Run → Report
told run =
    record {
      answer = Some (ending_of run);
      received = length (received_bytes (events_of run));
      events = length (events_of run);
      refuses = left_of run;
    }

finished : (e : ModelEnding) (received events r : ℕ) → r ≡ ending_answer e + 65536 * received + 16777216 * events → Refusing r → ⊥
finished Stuck received events r e given = omega arith
finished Refused received events r e given = omega arith
finished (Finished phase) received events r e given = omega arith

pub model_refusal_writes_nothing :
    (words : List ℕ) (run : Run) (r : ℕ) (received received' events events' : List ℕ)
    → ModelLeft words run r received received' events events'
    → Refusing r
    → (received' ≡ received) × (events' ≡ events)
model_refusal_writes_nothing words run r received received' events events' left given =
    let got = received_bytes (events_of run) in
    let went = traffic_bytes (events_of run) in
    by_room (got ++ drop (length got) received) (went ++ drop (length went) events) (whole words)
    (trace_fits run (length received) (length events)) left.0 left.1 left.2
  where
    by_room :
        (x y : List ℕ) (t f : Bool)
        → r ≡ cond t (report_answer (cond f (told run) trace_roomless)) 14
        → received' ≡ cond t (cond f x received) received
        → events' ≡ cond t (cond f y events) events
        → (received' ≡ received) × (events' ≡ events)
    by_room x y true true p q s =
        absurd (finished (ending_of run) (length (received_bytes (events_of run))) (length (events_of run)) r p given)
    by_room x y true false p q s = (q, s)
    by_room x y false f p q s = (q, s)

-- a name
pub name_refusal_writes_nothing :
    (name : List ℕ) (r : ℕ) (text text' : List ℕ)
    → r ≡ told_answer name (length text)
    → text' ≡ told_text name text
    → Refusing r
    → text' ≡ text
name_refusal_writes_nothing name r text text' e f given =
    by_room (paste text 0 name (length name)) (length name) (eqb (length name) 0) (leb (length name) (length text)) e f
  where
    by_room :
        (x : List ℕ) (n : ℕ) (t f : Bool)
        → r ≡ cond t 254 (cond f (packed 0 n) 7)
        → text' ≡ cond f x text
        → text' ≡ text
    by_room x n true f p q = absurd (omega arith)
    by_room x n false true p q = absurd (omega arith)
    by_room x n false false p q = q
