-- What a clear by pins does on the bus: it has made exactly one STOP when it is Idle and none before, and at the end of a run both wires
-- are released.
-- Assumes nothing.
use Prim.Native.Nat.{ℕ, zero, suc, ◌+◌, ◌-◌}
use native.Mathlib.Omega.{arith}
use mathlib.Core.Path.{◌≡◌, refl, ap, ◌∙◌}
use mathlib.Core.Bool.{Bool, true, false, cond}
use mathlib.Core.List.{List, [], ◌∷◌, ◌++◌}
use lib.Dec.{leb, ltb, eqb}
use Rattle.bus.specs.Events.{Event, start_bit, stop_bit, sent, got}
use Rattle.bus_clear.specs.declared.Pins.{Pins}
use Rattle.bus_clear.specs.declared.Pins.TheVariants.{Still, SclLow, SclHigh, SdaLowSclHigh, SclHighSdaLow}
use Rattle.bus_clear.specs.declared.State.{State}
use Rattle.bus_clear.specs.declared.State.TheVariants.{Idle, SendStop, SendClock}
use Rattle.bus_clear.specs.declared.BusClear.{BusClear}
use Rattle.bus_clear.specs.declared.Answer.{Answer}
use Rattle.bus_clear.specs.declared.Answer.TheVariants as answer
use Rattle.bus_clear.specs.declared.Stepped.{Stepped}
use Rattle.bus_clear.specs.declared.run.Terms.{Terms}
use Rattle.bus_clear.specs.Pins.{Change, scl, sda, changes_of}
use Rattle.bus_clear.specs.Clear.{last_time, hold, fresh_of, stays, acts, waits_first, step_of}
use Rattle.bus_clear.specs.Runs.{Sample, Polled, exceeded, answered, poll_all, made_by, all_changes}
use Rattle.bus_clear.specs.Wires.{Wires, set, seen, wires_after, seen_of, stops, wires_in}

wires_append : (w : Wires) (front back : List Change) → wires_after w (front ++ back) ≡ wires_after (wires_after w front) back
unfolding wires_after
wires_append w [] back = refl
wires_append w (a ∷ front) back = wires_append (set w a) front back

stops_append : (front back : List Event) → stops (front ++ back) ≡ stops front + stops back
unfolding stops
stops_append [] back = omega arith
stops_append (start_bit ∷ front) back = stops_append front back
stops_append (stop_bit ∷ front) back = let h = stops_append front back in omega arith
stops_append (sent b a ∷ front) back = stops_append front back
stops_append (got b a ∷ front) back = stops_append front back

seen_append :
    (w : Wires) (front back : List Change) → stops (seen_of w (front ++ back)) ≡ stops (seen_of w front) + stops (seen_of (wires_after w front) back)
unfolding seen_of wires_after stops
seen_append w [] back = omega arith
seen_append w (a ∷ front) back =
    let h = seen_append (set w a) front back in
    omega
    (arith, stops_append (seen w a) (seen_of (set w a) (front ++ back)), stops_append (seen w a) (seen_of (set w a) front))

-- how many STOPs a clear has made by the state that it is in
abbrev pub stops_by : State → ℕ
stops_by Idle = 1
stops_by SendStop = 0
stops_by (SendClock n high) = 0

-- pin changes lead from one state's wires to another's, with as many STOPs as lie between the two
abbrev pub Leads : State → List Change → State → Type 0
Leads s changes next =
    (wires_after (wires_in s) changes ≡ wires_in next) × (stops_by s + stops (seen_of (wires_in s) changes) ≡ stops_by next)

abbrev Led : State → Stepped → Type 0
Led s r = Leads s (made_by r.answer) r.next.state

abbrev at : State → ℕ → BusClear
at state wait = record { state = state; wait = wait }

none_leads : (s : State) → Leads s [] s
unfolding wires_after seen_of stops
none_leads s = (refl, omega arith)

module _ (w now : ℕ) where
  acts_led : (s next : State) (p : Pins) → Leads s (changes_of p) next → Led s (acts (at s w) next now p)
  acts_led s next p h = go (leb (now + hold) last_time)
    where
      go :
          (t : Bool)
          → Led s (cond t (record { next = at next (now + hold); answer = answer.Pending p }) (stays (at s w) answer.ClockRange))
      go true = h
      go false = none_leads s

  waits_led : (s : State) (r : Stepped) → Led s r → Led s (waits_first (at s w) now r)
  waits_led s r h = go (ltb now w)
    where
      go : (t : Bool) → Led s (cond t (stays (at s w) (answer.Pending Still)) r)
      go true = none_leads s
      go false = h

  -- one poll with pins
  step_led : (s : State) (level : Bool) → Led s (step_of (at s w) true now level)
  unfolding step_of wires_after seen_of stops
  step_led Idle true = none_leads Idle
  step_led Idle false = none_leads Idle
  step_led SendStop level = waits_led SendStop _ (refl, refl)
  step_led (SendClock n true) level = waits_led (SendClock n true) _ (acts_led (SendClock n true) (SendClock n false) SclLow (refl, refl))
  step_led (SendClock n false) level = waits_led (SendClock n false) _ (go (eqb n 0) level)
    where
      go :
          (z d : Bool)
          → Led (SendClock n false)
          (cond z (acts (at (SendClock n false) w) SendStop now SdaLowSclHigh)
          (cond d (acts (at (SendClock n false) w) SendStop now SclHighSdaLow)
          (acts (at (SendClock n false) w) (SendClock (n - 1) true) now SclHigh)))
      go true d = acts_led (SendClock n false) SendStop SdaLowSclHigh (refl, refl)
      go false true = acts_led (SendClock n false) SendStop SclHighSdaLow (refl, refl)
      go false false = acts_led (SendClock n false) (SendClock (n - 1) true) SclHigh (refl, refl)

leads_append : (s m e : State) (front back : List Change) → Leads s front m → Leads m back e → Leads s (front ++ back) e
leads_append s m e front back f b = (
  wires_append (wires_in s) front back ∙ ap (λ (w : Wires). wires_after w back) f.0 ∙ b.0,
  omega (arith, seen_append (wires_in s) front back, f.1, b.1, ap (λ (w : Wires). stops (seen_of w back)) f.0),
)

module _ (t : Terms) (with-pins : t.pins ≡ true) where
  polls_on :
      (c next : BusClear) (a : Answer) (late : Bool) (more : Polled)
      → Leads c.state (made_by a) next.state
      → Leads next.state more.changes more.clear.state
      → Leads c.state (answered a c next late more).changes (answered a c next late more).clear.state
  polls_on c next answer.Ready late more h k = h
  polls_on c next (answer.Pending p) true more h k =
      leads_append c.state next.state next.state (changes_of p) [] h (none_leads next.state)
  polls_on c next (answer.Pending p) false more h k =
      leads_append c.state next.state more.clear.state (changes_of p) more.changes h k
  polls_on c next answer.ClockRange late more h k = none_leads c.state

  -- from any record whose wires are its state's, a run leaves the wires of the state that it ends in
  pub run_leads :
      (budget : ℕ) (tape : List Sample) (c : BusClear)
      → Leads c.state (poll_all t budget tape c).changes (poll_all t budget tape c).clear.state
  unfolding poll_all
  run_leads zero tape c = none_leads c.state
  run_leads (suc budget) [] c = none_leads c.state
  run_leads (suc budget) (s ∷ tape) c =
      let r = step_of c t.pins s.clock s.sda in
      polls_on c r.next r.answer (exceeded t s.clock) (poll_all t budget tape r.next)
      (rw with-pins (step_led c.wait s.clock c.state s.sda)) (run_leads budget tape r.next)

  module _ (budget now : ℕ) (tape : List Sample) (before : Wires) where
    abbrev run : Polled
    run = poll_all t budget tape (fresh_of true now).clear

    -- a fresh clear that reaches Idle has made exactly one STOP, and one that has not has made none
    pub one_stop :
        stops (seen_of before (changes_of (fresh_of true now).pins ++ run.changes)) ≡ stops_by run.clear.state
    unfolding seen_of wires_after stops
    one_stop = omega (arith, (run_leads budget tape (fresh_of true now).clear).1)

    -- at whatever end, SCL and SDA are released
    pub released_at_the_end : (p : Polled) → wires_after before (all_changes t p) ≡ record { clock = true; data' = true }
    unfolding wires_after
    released_at_the_end p = rw (with-pins, wires_append before p.changes (scl true ∷ sda true ∷ []))
