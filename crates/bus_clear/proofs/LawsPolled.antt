-- Laws of a whole run, for citing: its polls stay on the tape, its changes are those of its polls, and what is reported by the room.
-- Assumes nothing.
use Rattle.std.specs.Prelude.{Some}
use Prim.Native.Nat.{ℕ, zero, suc, ◌+◌, ◌*◌, ◌≤◌, ◌<◌}
use native.Mathlib.Omega.{arith}
use native.Mathlib.Nat.{zero-add}
use mathlib.Core.Path.{◌≡◌, refl, sym, ap, ◌∙◌}
use mathlib.Core.Bool.{Bool, true, false, ◌&&◌}
use mathlib.Core.List.{List, [], ◌∷◌, ◌++◌, map, map-append, append-nil}
use lib.ListN.{length, length-append, length-map}
use lib.Seq.{sets}
use borrow.Author.Tests.{le-leb, lt-leb}
use Rattle.bus_clear.specs.declared.BusClear.{BusClear}
use Rattle.bus_clear.specs.declared.Answer.{Answer}
use Rattle.bus_clear.specs.declared.Answer.TheVariants as answer
use Rattle.bus_clear.specs.declared.Pins.{Pins}
use Rattle.bus_clear.specs.declared.Pins.TheVariants.{SclHighSdaHigh}
use Rattle.bus_clear.specs.declared.run.Terms.{Terms}
use Rattle.bus_clear.specs.declared.run.Polls.{Polls}
use Rattle.bus_clear.specs.Pins.{Change, changes_of, change_byte, change_bytes, listed_with}
use Rattle.bus_clear.specs.Clear.{step_of}
use Rattle.bus_clear.specs.Runs.{Sample, tape_of, Polled, exceeded, answered, poll_all, polled_over, counted_of, made_in, releases, all_changes, run_fits, run_roomless, run_report, laid}
use Rattle.bus_clear.proofs.LawsRuns.{few_changes}
use Rattle.bus_clear.proofs.LawsLaying.{sets_append}

pub tape_within : (clocks levels : List ℕ) → (length (tape_of clocks levels) ≤ length clocks) × (length (tape_of clocks levels) ≤ length levels)
unfolding tape_of
tape_within [] levels = omega arith
tape_within (t ∷ clocks) [] = omega arith
tape_within (t ∷ clocks) (level ∷ levels) = let h = tape_within clocks levels in omega arith

-- one poll in front of what is known of the polls after it
module _ (t : Terms) (s : Sample) (tape : List Sample) (c : BusClear) where
  abbrev next : BusClear
  next = (step_of c t.pins s.clock s.sda).next

  answered_within :
      (a : Answer) (late : Bool) (more : Polled)
      → more.polls ≤ length tape
      → (answered a c next late more).polls ≤ suc (length tape)
  answered_within answer.Ready late more h = omega arith
  answered_within (answer.Pending p) true more h = omega arith
  answered_within (answer.Pending p) false more h = omega arith
  answered_within answer.ClockRange late more h = omega arith

  answered_few :
      (a : Answer) (late : Bool) (more : Polled)
      → length more.changes ≤ 2 * more.polls
      → length (answered a c next late more).changes ≤ 2 * (answered a c next late more).polls
  answered_few answer.Ready late more h = omega arith
  answered_few (answer.Pending p) true more h = simp append-nil (omega (arith, few_changes p))
  answered_few (answer.Pending p) false more h = omega (arith, length-append (changes_of p) more.changes, few_changes p)
  answered_few answer.ClockRange late more h = omega arith

  answered_made :
      (a : Answer) (late : Bool) (more : Polled)
      → (step_of c t.pins s.clock s.sda).answer ≡ a
      → more.changes ≡ made_in t.pins more.polls tape next
      → (answered a c next late more).changes ≡ made_in t.pins (answered a c next late more).polls (s ∷ tape) c
  unfolding made_in
  answered_made answer.Ready late more e h = rw e
  answered_made (answer.Pending p) true more e h = rw e
  answered_made (answer.Pending p) false more e h = rw e (ap (λ (x : List Change). changes_of p ++ x) h)
  answered_made answer.ClockRange late more e h = refl

pub polls_within : (t : Terms) (budget : ℕ) (tape : List Sample) (c : BusClear) → (poll_all t budget tape c).polls ≤ length tape
unfolding poll_all
polls_within t zero tape c = omega arith
polls_within t (suc budget) [] c = omega arith
polls_within t (suc budget) (s ∷ tape) c =
    let r = step_of c t.pins s.clock s.sda in
    answered_within t s tape c r.answer (exceeded t s.clock) (poll_all t budget tape r.next) (polls_within t budget tape r.next)

-- a run makes at most two pin changes a poll
pub polled_few :
    (t : Terms) (budget : ℕ) (tape : List Sample) (c : BusClear)
    → length (poll_all t budget tape c).changes ≤ 2 * (poll_all t budget tape c).polls
unfolding poll_all
polled_few t zero tape c = omega arith
polled_few t (suc budget) [] c = omega arith
polled_few t (suc budget) (s ∷ tape) c =
    let r = step_of c t.pins s.clock s.sda in
    answered_few t s tape c r.answer (exceeded t s.clock) (poll_all t budget tape r.next) (polled_few t budget tape r.next)

pub polled_made :
    (t : Terms) (budget : ℕ) (tape : List Sample) (c : BusClear)
    → (poll_all t budget tape c).changes ≡ made_in t.pins (poll_all t budget tape c).polls tape c
unfolding poll_all made_in
polled_made t zero tape c = refl
polled_made t (suc budget) [] c = refl
polled_made t (suc budget) (s ∷ tape) c =
    let r = step_of c t.pins s.clock s.sda in
    answered_made t s tape c r.answer (exceeded t s.clock) (poll_all t budget tape r.next) refl (polled_made t budget tape r.next)

-- what is reported of a run, by the room in the lent memory
module _ (t : Terms) (clocks levels memory : List ℕ) (c : BusClear) where
  abbrev polled : Polled
  polled = polled_over t clocks levels c

  abbrev released : ℕ
  released = length (releases t.pins)

  all_changes_lem : length (all_changes t polled) ≡ length polled.changes + released
  all_changes_lem = length-append polled.changes (releases t.pins)

  pub too_little_room :
      length memory < length polled.changes + released
      → (run_roomless c ≡ run_report t c polled (length memory)) × (memory ≡ laid t polled memory)
  too_little_room h =
      let no = lt-leb (length (all_changes t polled)) (length memory) (omega (arith, all_changes_lem)) in (simp no, simp no)

  module _ (fits : length polled.changes + released ≤ length memory) where
    yes : run_fits t polled (length memory) ≡ true
    yes = le-leb (length (all_changes t polled)) (length memory) (omega (arith, all_changes_lem))

    pub reported :
        (p : Polls) (end : ℕ) (reset : Bool)
        → p ≡ counted_of polled
        → end ≡ length polled.changes + released
        → reset ≡ (t.pins && t.reset)
        → record { answer = Some p.ending; polls = p.polls; clear = p.clear; changes = end; reset = reset }
        ≡ run_report t c polled (length memory)
    reported p end reset e f r = rw (e, f, r, ← all_changes_lem, yes)

    pub released_last :
        (front whole : List ℕ) (release : Pins)
        → front ≡ sets memory 0 (map change_byte polled.changes)
        → release ≡ listed_with t.pins SclHighSdaHigh
        → whole ≡ sets front (length polled.changes) (change_bytes release)
        → whole ≡ laid t polled memory
    released_last front whole release f r w =
        let as_long : length (map change_byte polled.changes) ≡ length polled.changes = simp length-map in
        w
        ∙ rw (f, r, yes, map-append change_byte polled.changes (releases t.pins), ← as_long)
        (ap (λ (i : ℕ). sets (sets memory 0 (map change_byte polled.changes)) i (map change_byte (releases t.pins))) (sym (zero-add (length (map change_byte polled.changes))))
        ∙ sets_append (map change_byte polled.changes) (map change_byte (releases t.pins)) memory 0)
