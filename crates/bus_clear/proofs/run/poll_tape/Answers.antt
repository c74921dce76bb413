-- `bus_clear::run::poll_tape` meets its contract: each turn is a poll of the whole run, and so is each end of it.
use Prim.Native.Nat.{◌<◌}
use native.Mathlib.Omega.{arith}
use mathlib.Core.Path.{◌≡◌, sym, ap, ◌∙◌}
use mathlib.Core.Bool.{not}
use lib.ListN.{length, get_or}
use Rattle.std.proofs.lemmas.List.{length_push}
use lib.Dec.{eqb}
use Rattle.bus_clear.specs.Clear.{step_of}
use Rattle.bus_clear.proofs.LawsRuns.{length-bytes, few_changes, polls_spent, tape_over, out_of_range, is_ready, gives_up, goes_on}
use Rattle.bus_clear.proofs.LawsTape.{turn, over}
use Rattle.bus_clear.proofs.run.poll_tape.Goals.{After-step-s}
use Rattle.bus_clear.proofs.run.poll_tape.Goals as goal

sampled :
    (c : After-step-s)
    → let clocks = c.args.tape.clocks.now in
    let levels = c.args.tape.levels.now in
    let k = c.loop-time.polls in
    (k < c.args.t.budget) × (k < length clocks) × (k < length levels) × (c.in-Some.time.now ≡ get_or clocks k 0)
    × (c.step-s.result ≡ step_of c.loop-time.clear c.args.t.pins (get_or clocks k 0) (not (eqb (get_or levels k 0) 0)))
sampled c =
    let a = c.args in
    let l = c.loop-time in
    let t =
    turn a.tape.clocks.now a.tape.levels.now a.t.budget l.polls c.into_iter-time-iterator.result _ c.next.new.self l.yielded _
    l.invariant.counted (cc) (cc) (cc) l.yielded_by c.next.ensures.steps _ c.in-Some.is in
    (t.0, t.1, t.2, t.3, c.step-s.ensures ∙ rw (t.3, t.4))

pub returns-in-ClockRange : goal.returns-in-ClockRange
returns-in-ClockRange c =
    let a = c.args in
    let l = c.loop-time in
    let s = sampled (goal.at.returns-in-ClockRange c).After-step-s in
    sym (out_of_range a.t a.tape.clocks.now a.tape.levels.now l.clear l.polls l.changes s.0 s.1 s.2 c.step-s.result s.4 c.in-ClockRange.is)
    ∙ l.invariant.whole

pub returns-in-Ready : goal.returns-in-Ready
returns-in-Ready c =
    let a = c.args in
    let l = c.loop-time in
    let s = sampled (goal.at.returns-in-Ready c).After-step-s in
    sym (is_ready a.t a.tape.clocks.now a.tape.levels.now l.clear l.polls l.changes s.0 s.1 s.2 c.step-s.result s.4 c.in-Ready.is)
    ∙ l.invariant.whole

pub returns-then-is_exceeded : goal.returns-then-is_exceeded
returns-then-is_exceeded c =
    let a = c.args in
    let l = c.loop-time in
    let s = sampled (goal.at.returns-then-is_exceeded c).After-step-s in
    rw (ap length c.bytes.ensures, length-bytes c.in-Pending.made)
    (sym (gives_up a.t a.tape.clocks.now a.tape.levels.now l.clear l.polls l.changes s.0 s.1 s.2 c.step-s.result s.4 _ c.in-Pending.is
    (rw s.3 at (sym c.is_exceeded.ensures ∙ c.if-is_exceeded.true))) ∙ l.invariant.whole)

pub loop-time-preserved : goal.loop-time-preserved
loop-time-preserved c =
    let a = c.args in
    let l = c.loop-time in
    let s = sampled (goal.at.loop-time-preserved c).After-step-s in
    let made = ap length c.bytes.ensures ∙ length-bytes c.in-Pending.made in
    record {
      counted = omega (arith, length_push l.yielded (c.in-Some.time, c.in-Some.level));
      few = omega (arith, few_changes c.in-Pending.made);
      whole =
          rw made
          (sym (goes_on a.t a.tape.clocks.now a.tape.levels.now l.clear l.polls l.changes s.0 s.1 s.2 c.step-s.result s.4 _ c.in-Pending.is
          (rw s.3 at (sym c.is_exceeded.ensures ∙ c.if-is_exceeded.false))) ∙ l.invariant.whole);
    }

pub returns-then-polls-t : goal.returns-then-polls-t
returns-then-polls-t c =
    let a = c.args in
    let l = c.loop-time in
    sym (polls_spent a.t a.tape.clocks.now a.tape.levels.now l.clear l.polls l.changes (omega arith)) ∙ l.invariant.whole

pub returns-else-polls-t : goal.returns-else-polls-t
returns-else-polls-t c =
    let a = c.args in
    let l = c.loop-time in
    let k =
    over a.tape.clocks.now a.tape.levels.now a.t.budget l.polls c.into_iter-time-iterator.result _ c.next.new.self l.yielded _
    l.invariant.counted (cc) (cc) (cc) l.yielded_by c.next.ensures.steps c.in-None.is in
    sym (tape_over a.t a.tape.clocks.now a.tape.levels.now l.clear l.polls l.changes (omega arith) (omega arith)) ∙ l.invariant.whole
