-- The nine clocks: a clear whose clocks are far enough apart is Idle two polls after each rise at which SDA may first read high, and
-- twenty polls at the latest; a poll that comes too early acts on nothing.
-- Assumes nothing.
use Prim.Native.Nat.{ℕ, zero, suc, ◌+◌, ◌-◌, ◌*◌, ◌≤◌}
use native.Mathlib.Omega.{arith}
use mathlib.Core.Path.{◌≡◌, refl, ap, ◌∙◌}
use mathlib.Core.Bool.{Bool, true, false, cond, false≢true}
use mathlib.Core.List.{List, [], ◌∷◌}
use lib.ListN.{length, take}
use lib.Dec.{eqb-suc-zero}
use borrow.Author.Tests.{le-leb, le-ltb}
use Rattle.bus_clear.specs.declared.State.{State}
use Rattle.bus_clear.specs.declared.State.TheVariants.{Idle, SendStop, SendClock}
use Rattle.bus_clear.specs.declared.Pins.TheVariants.{Still}
use Rattle.bus_clear.specs.declared.BusClear.{BusClear}
use Rattle.bus_clear.specs.declared.Answer.{Answer}
use Rattle.bus_clear.specs.declared.Answer.TheVariants as answer
use Rattle.bus_clear.specs.declared.Answer.TheVariants.{Pending}
use Rattle.bus_clear.specs.declared.Stepped.{Stepped}
use Rattle.bus_clear.specs.Clear.{last_time, hold, fresh_of, stays, step_of}
use Rattle.bus_clear.specs.declared.run.Terms.{Terms}
use Rattle.bus_clear.specs.Runs.{Sample, Polled, exceeded, answered, poll_all}
use Rattle.bus_clear.specs.Clocks.{polled_by, Spaced, ReleasedAt, at_once, later, HeldThrough, over, held, waits, acted_on}

abbrev at : State → ℕ → BusClear
at state wait = record { state = state; wait = wait }

-- one acting poll: a rise at which SDA reads high, one at which it reads low, the last rise, a fall
module _ (w now : ℕ) (due : w ≤ now) (fits : now + hold ≤ last_time) where
  released_rise : (n : ℕ) → (step_of (at (SendClock (suc n) false) w) true now true).next ≡ at SendStop (now + hold)
  unfolding step_of
  released_rise n = simp (eqb-suc-zero n, le-ltb now w due, le-leb (now + hold) last_time fits)

  held_rise : (n : ℕ) → (step_of (at (SendClock (suc n) false) w) true now false).next ≡ at (SendClock n true) (now + hold)
  unfolding step_of
  held_rise n = let less : suc n - 1 ≡ n = omega arith in simp (eqb-suc-zero n, le-ltb now w due, le-leb (now + hold) last_time fits, less)

  last_rise : (sda : Bool) → (step_of (at (SendClock 0 false) w) true now sda).next ≡ at SendStop (now + hold)
  unfolding step_of
  last_rise sda = simp (le-ltb now w due, le-leb (now + hold) last_time fits)

  fall : (n : ℕ) (sda : Bool) → (step_of (at (SendClock n true) w) true now sda).next ≡ at (SendClock n false) (now + hold)
  unfolding step_of
  fall n sda = simp (le-ltb now w due, le-leb (now + hold) last_time fits)

  stop_made : (sda : Bool) → (step_of (at SendStop w) true now sda).next ≡ at Idle w
  unfolding step_of
  stop_made sda = simp (le-ltb now w due)

-- the same over a tape, from any number of clocks
module _ (n : ℕ) where
  -- a rise and a fall: one clock less
  one_clock :
      (w : ℕ) (s u : Sample) (tape : List Sample)
      → Spaced w (s ∷ u ∷ tape)
      → s.sda ≡ false
      → polled_by true (s ∷ u ∷ tape) (at (SendClock (suc n) false) w) ≡ polled_by true tape (at (SendClock n false) (u.clock + hold))
  unfolding polled_by
  one_clock w s u tape h low =
      rw (low, held_rise w s.clock h.0 h.1 n, fall (s.clock + hold) u.clock h.2.0 h.2.1 n u.sda)

-- a rise that finds SDA released, or the last: the STOP is made
stopping :
    (w m : ℕ) (s u : Sample)
    → Spaced w (s ∷ u ∷ [])
    → (step_of (at (SendClock m false) w) true s.clock s.sda).next ≡ at SendStop (s.clock + hold)
    → (polled_by true (s ∷ u ∷ []) (at (SendClock m false) w)).state ≡ Idle
unfolding polled_by
stopping w m s u h e =
    ap (λ (c : BusClear). (step_of c true u.clock u.sda).next.state) e
    ∙ ap (λ (c : BusClear). c.state) (stop_made (s.clock + hold) u.clock h.2.0 h.2.1 u.sda)

released_idle :
    (n : ℕ) {k : ℕ} (w : ℕ) {tape : List Sample}
    → k ≤ n
    → Spaced w tape
    → ReleasedAt k tape
    → ((polled_by true tape (at (SendClock n false) w)).state ≡ Idle) × (length tape ≡ 2 * k)
released_idle zero w h s (at_once high) = absurd (omega arith)
released_idle zero w h s (later low r) = absurd (omega arith)
released_idle (suc n) w h s (at_once {s = a} {u = b} high) =
    (stopping w (suc n) a b s (rw high (released_rise w a.clock s.0 s.1 n)), omega arith)
released_idle (suc n) w h s (later {s = a} {u = b} {tape = tape} low r) =
    let rest = released_idle n (b.clock + hold) (omega arith) s.2.2 r in
    (ap (λ (c : BusClear). c.state) (one_clock n w a b tape s low) ∙ rest.0, omega arith)

held_idle :
    (n w : ℕ) {tape : List Sample}
    → Spaced w tape
    → HeldThrough n tape
    → ((polled_by true tape (at (SendClock n false) w)).state ≡ Idle) × (length tape ≡ 2 * suc n)
held_idle zero w s (over {s = a} {u = b}) = (stopping w 0 a b s (last_rise w a.clock s.0 s.1 a.sda), omega arith)
held_idle (suc n) w s (held {s = a} {u = b} {tape = tape} low r) =
    let rest = held_idle n (b.clock + hold) s.2.2 r in
    (ap (λ (c : BusClear). c.state) (one_clock n w a b tape s low) ∙ rest.0, omega arith)

module _ (now : ℕ) (tape : List Sample) (spaced : Spaced now tape) where
  -- SDA first reads high at the k-th rise, k from 1 to 9: Idle after 2k polls
  pub cleared_at_rise :
      (k : ℕ)
      → k ≤ 9
      → ReleasedAt k tape
      → ((polled_by true tape (fresh_of true now).clear).state ≡ Idle) × (length tape ≡ 2 * k)
  cleared_at_rise k h r = released_idle 9 now h spaced r

  -- SDA still low at the ninth rise, and whatever it reads after: Idle after 20 polls
  pub cleared_after_nine :
      HeldThrough 9 tape → ((polled_by true tape (fresh_of true now).clear).state ≡ Idle) × (length tape ≡ 20)
  cleared_after_nine r = held_idle 9 now spaced r

-- a poll that comes before the wait is over changes nothing and moves no pin
pub waiting_acts_on_nothing :
    (c : BusClear) (pins sda : Bool) (now : ℕ)
    → waits c.state now c.wait ≡ true
    → step_of c pins now sda ≡ stays c (Pending Still)
unfolding step_of
waiting_acts_on_nothing c pins sda now e = go c.state refl e
  where
    go : (state : State) → c.state ≡ state → waits state now c.wait ≡ true → step_of c pins now sda ≡ stays c (Pending Still)
    go Idle s e = absurd (false≢true e)
    go SendStop s e = simp (s, e)
    go (SendClock n high) s e = simp (s, e)

acted :
    (pins : Bool) (s : Sample) (tape : List Sample) (c : BusClear) (t : Bool)
    → waits c.state s.clock c.wait ≡ t
    → polled_by pins tape c ≡ polled_by pins (acted_on pins tape c) c
    → ((n : BusClear) → polled_by pins tape n ≡ polled_by pins (acted_on pins tape n) n)
    → polled_by pins (s ∷ tape) c
    ≡ polled_by pins (cond t (acted_on pins tape c) (s ∷ acted_on pins tape (step_of c pins s.clock s.sda).next)) c
unfolding polled_by
acted pins s tape c true e same rest =
    ap (λ (x : Stepped). polled_by pins tape x.next) (waiting_acts_on_nothing c pins s.sda s.clock e) ∙ same
acted pins s tape c false e same rest = rest (step_of c pins s.clock s.sda).next

-- so a tape with clocks as close as one likes leaves what its acting polls alone would leave
pub only_acting_polls_count :
    (pins : Bool) (tape : List Sample) (c : BusClear) → polled_by pins tape c ≡ polled_by pins (acted_on pins tape c) c
unfolding polled_by acted_on
only_acting_polls_count pins [] c = refl
only_acting_polls_count pins (s ∷ tape) c =
    acted pins s tape c (waits c.state s.clock c.wait) refl (only_acting_polls_count pins tape c) (only_acting_polls_count pins tape)

-- one poll of a run in front of what is known of those after it
record_left :
    (pins : Bool) (s : Sample) (tape : List Sample) (c : BusClear) (a : Answer) (late : Bool) (more : Polled)
    → more.clear ≡ polled_by pins (take more.polls tape) (step_of c pins s.clock s.sda).next
    → (answered a c (step_of c pins s.clock s.sda).next late more).clear
    ≡ polled_by pins (take (answered a c (step_of c pins s.clock s.sda).next late more).polls (s ∷ tape)) c
unfolding polled_by
record_left pins s tape c answer.Ready late more h = refl
record_left pins s tape c (answer.Pending p) true more h = refl
record_left pins s tape c (answer.Pending p) false more h = h
record_left pins s tape c answer.ClockRange late more h = refl

-- the record that a run leaves is what the polls that it counts leave: what is said of polled tapes is said of runs
pub run_leaves_its_polls :
    (t : Terms) (budget : ℕ) (tape : List Sample) (c : BusClear)
    → (poll_all t budget tape c).clear ≡ polled_by t.pins (take (poll_all t budget tape c).polls tape) c
unfolding poll_all polled_by
run_leaves_its_polls t zero tape c = refl
run_leaves_its_polls t (suc budget) [] c = refl
run_leaves_its_polls t (suc budget) (s ∷ tape) c =
    let r = step_of c t.pins s.clock s.sda in
    record_left t.pins s tape c r.answer (exceeded t s.clock) (poll_all t budget tape r.next)
    (run_leaves_its_polls t budget tape r.next)
