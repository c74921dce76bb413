-- `bus_clear::run::lay_all` meets its contract: each turn lays the changes of one poll more.
use mathlib.Core.Path.{◌≡◌, refl, sym, ap, ◌∙◌}
use mathlib.Core.List.{List, [], ◌∷◌, ◌++◌, map}
use lib.ListN.{length, length-append}
use lib.Seq.{sets}
use native.Mathlib.Omega.{arith}
use Rattle.std.proofs.lemmas.List.{length_push}
use Rattle.bus_clear.specs.Pins.{Change, change_byte, changes_of}
use Rattle.bus_clear.specs.Runs.{made_by}
use Rattle.bus_clear.proofs.LawsLaying.{still_made, made_over, made_next, made_none, laid_next}
use Rattle.bus_clear.proofs.LawsTape.{turn, over}
use Rattle.bus_clear.proofs.run.lay_all.Goals.{After-step-s}
use Rattle.bus_clear.proofs.run.lay_all.Goals as goal

next_made :
    (c : After-step-s)
    → let a = c.args in
    let l = c.loop-time in
    still_made a.pins a.tape.clocks.now a.tape.levels.now a.polls l.clear (length l.yielded)
    ≡ made_by c.step-s.result.answer
    ++ still_made a.pins a.tape.clocks.now a.tape.levels.now a.polls c.step-s.result.next
    (length (l.yielded ++ (c.in-Some.time, c.in-Some.level) ∷ []))
next_made c =
    let a = c.args in
    let l = c.loop-time in
    let t =
    turn a.tape.clocks.now a.tape.levels.now a.polls (length l.yielded) c.into_iter-time-iterator.result _ c.next.new.self l.yielded _
    refl (cc) (cc) (cc) l.yielded_by c.next.ensures.steps _ c.in-Some.is in
    rw (length_push l.yielded (c.in-Some.time, c.in-Some.level))
    (made_next a.pins a.tape.clocks.now a.tape.levels.now a.polls l.clear (length l.yielded) t.0 t.1 t.2 c.step-s.result
    (c.step-s.ensures ∙ rw (t.3, t.4)))

pub lay-at-requires : goal.lay-at-requires
lay-at-requires c =
    let s = (goal.at.lay-at-requires c).After-step-s in
    omega (arith, simp length-append at (ap length (next_made s)), ap (λ x. length (made_by x)) c.in-Pending.is)

pub loop-time-preserved-in-Pending : goal.loop-time-preserved-in-Pending
loop-time-preserved-in-Pending c =
    let l = c.loop-time in
    let laid = c.lay-at.ensures in
    let s = (goal.at.loop-time-preserved-in-Pending c).After-step-s in
    let m = rw c.in-Pending.is at (next_made s) in
    record {
      room = omega (arith, laid.0, ap length m ∙ length-append (changes_of c.in-Pending.made) _);
      whole =
          rw (laid.1, laid.0)
          (laid_next l.memory l.at c.in-Pending.made (changes_of c.in-Pending.made) _ refl
          ∙ ap (λ (x : List Change). sets l.memory l.at (map change_byte x)) (sym m) ∙ l.invariant.whole);
    }

pub loop-time-preserved : goal.loop-time-preserved
loop-time-preserved c =
    let s = (goal.at.loop-time-preserved c).After-step-s in
    let m = rw (made_none c.step-s.result.answer (λ p. c.in_default.not-Pending p)) at (next_made s) in
    rw m at c.loop-time.invariant

pub returns : goal.returns
returns c =
    let l = c.loop-time in
    let a = c.args in
    let k =
    over a.tape.clocks.now a.tape.levels.now a.polls (length l.yielded) c.into_iter-time-iterator.result _ c.next.new.self l.yielded _
    refl (cc) (cc) (cc) l.yielded_by c.next.ensures.steps c.in-None.is in
    let none = made_over a.pins a.tape.clocks.now a.tape.levels.now a.polls l.clear (length l.yielded) (omega arith) in
    (omega (arith, rw none at l.invariant.room), rw none at l.invariant.whole)
