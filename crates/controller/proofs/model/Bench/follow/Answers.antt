use native.Mathlib.Omega.{arith}
use mathlib.Core.Path.{◌≡◌, refl, sym, ap, ◌∙◌}
use Rattle.std.specs.Prelude.{Option, None, Result, Ok, Err, ok_or}
use Rattle.std.specs.Result.{IsErrAnd}
use Rattle.controller.specs.declared.Phase.{Phase}
use Rattle.controller.specs.declared.model.Ending.{Ending}
use Rattle.controller.specs.declared.model.Ending.TheVariants.{Stuck}
use Rattle.controller.specs.Places.{state_at}
use Rattle.controller.specs.Model.{events_of}
use Rattle.controller.specs.Tracing.{blank_trace, heard_all, traced}
use Rattle.controller.proofs.LawsTraces.{list_exceeds, list_runs, run_malformed, run_halts, run_finishes, run_cut, run_goes, run_over, phase_unknown, phase_known}
use Rattle.controller.proofs.LawsSpent.{finishes_fits, goes_fits, goes_within}
use Rattle.controller.proofs.model.Bench.follow.Goals as goal

-- what `?` hands on, of an error and of nothing
handed : (r : Result Phase Ending) (e : Ending) → IsErrAnd r (λ y. y ≡ e) → r ≡ Err e
handed (Err y) e h = ap Err h
handed (Ok x) e h = absurd h

handed_stuck :
    {A : Type 0} (r : Result Phase Ending) (e : Ending) (o : Option A)
    → IsErrAnd r (λ y. y ≡ e)
    → o ≡ None
    → ◌≡◌ {A = Result A Ending} (Err e) (ok_or o Stuck)
    → r ≡ Err Stuck
handed_stuck r e o h none was = let w = rw none at was in handed r e h ∙ cc

pub returns-in_err-from : goal.returns-in_err-from
unfolding traced heard_all events_of
returns-in_err-from c =
    let h = c.in_err-from.ensures in
    rw (handed_stuck _ _ _ c.from_residual.ensures.1 h.ok_part h.value)
    (rw (c.requires, phase_unknown c.args.phase _ (sym c.numbered.ensures ∙ h.ok_part)) refl)

pub returns-in_err-place : goal.returns-in_err-place
unfolding traced heard_all events_of
returns-in_err-place c =
    let h = c.in_err-place.ensures in
    let exceeds = rw h.ok_part at c.first.ensures in
    rw (handed_stuck _ _ _ c.from_residual-in_err-place.ensures.1 h.ok_part h.value, c.requires)
    (ap (traced blank_trace)
    (sym
    (phase_known c.args.phase _ _ (sym c.numbered.ensures ∙ c.in_ok-from.ensures.ok_part)
    ∙ list_exceeds 32 _ c.in_ok-from.from _ exceeds)))

pub loop-word-init : goal.loop-word-init
loop-word-init c =
    let begins = rw c.in_ok-place.ensures.ok_part at c.first.ensures in
    record {
      spare = rw c.requires (omega (arith, ap (λ s. s.received) begins.1), omega arith);
      goes_on = rw (c.requires, begins.1)
          (ap (traced blank_trace)
          (sym
          (phase_known c.args.phase _ _ (sym c.numbered.ensures ∙ c.in_ok-from.ensures.ok_part)
          ∙ list_runs 32 _ c.in_ok-from.from _ begins.0)));
    }

pub returns-in_err-command : goal.returns-in_err-command
unfolding traced heard_all events_of
returns-in_err-command c =
    let l = c.loop-word in
    let h = c.in_err-command.ensures in
    rw (handed_stuck _ _ _ c.from_residual-in_err-command.ensures.1 h.ok_part h.value)
    (ap (traced l.self.trace) (sym (run_malformed 32 _ l.word-index _ (omega arith) _ (sym c.decode.ensures ∙ h.ok_part)))
    ∙ l.invariant.goes_on)

pub returns-in-Halts : goal.returns-in-Halts
unfolding traced heard_all events_of
returns-in-Halts c =
    let l = c.loop-word in
    ap (traced l.self.trace)
    (sym
    (run_halts 32 _ l.word-index _ (omega arith) _ (sym c.decode.ensures ∙ c.in_ok-command.ensures.ok_part) _
    c.in-Halts.ensures))
    ∙ l.invariant.goes_on

pub carry_out-requires : goal.carry_out-requires
carry_out-requires c =
    let l = c.loop-word in
    goes_fits (state_at l.place) l.place.within.0 l.place.within.1 l.word-index c.loop-word-test.true l.self.trace
    l.invariant.spare _ (state_at c.in-GoesOn.next) c.in-GoesOn.ensures c.in-GoesOn.next.within.1

pub carry_out-requires-in-Finishes : goal.carry_out-requires-in-Finishes
carry_out-requires-in-Finishes c =
    let l = c.loop-word in
    finishes_fits (state_at l.place) l.place.within.0 l.place.within.1 l.word-index c.loop-word-test.true l.self.trace
    l.invariant.spare _ _ c.in-Finishes.ensures

pub loop-word-preserved : goal.loop-word-preserved
loop-word-preserved c =
    let l = c.loop-word in
    record {
      spare =
          goes_within (state_at l.place) l.place.within.0 l.place.within.1 l.word-index c.loop-word-test.true l.self.trace
          l.invariant.spare _ (state_at c.in-GoesOn.next) c.in-GoesOn.ensures c.in-GoesOn.next.within.1 c.carry_out.new.self.trace
          c.carry_out.ensures.within;
      goes_on =
          sym
          (run_goes 32 _ l.word-index _ (omega arith) _ (sym c.decode.ensures ∙ c.in_ok-command.ensures.ok_part) l.self
          c.carry_out.new.self c.carry_out.result c.carry_out.ensures.comes_to _ c.in-GoesOn.ensures _
          c.in_ok-carry_out-in-GoesOn.was)
          ∙ l.invariant.goes_on;
    }

pub returns-in_err-carry_out-in-GoesOn : goal.returns-in_err-carry_out-in-GoesOn
returns-in_err-carry_out-in-GoesOn c =
    let l = c.loop-word in
    rw (handed _ _ c.from_residual-in_err-carry_out-in-GoesOn.ensures.1)
    (sym
    (run_cut 32 _ l.word-index _ (omega arith) _ (sym c.decode.ensures ∙ c.in_ok-command.ensures.ok_part) l.self
    c.carry_out.new.self c.carry_out.result c.carry_out.ensures.comes_to _ c.in-GoesOn.ensures _
    c.in_err-carry_out-in-GoesOn.was)
    ∙ l.invariant.goes_on)

pub returns : goal.returns
unfolding traced heard_all events_of
returns c =
    let l = c.loop-word in
    ap (traced l.self.trace) (sym (run_over 32 _ l.word-index _ _ (omega arith))) ∙ l.invariant.goes_on

pub returns-in_err-carry_out-in-Finishes : goal.returns-in_err-carry_out-in-Finishes
returns-in_err-carry_out-in-Finishes c =
    let l = c.loop-word in
    rw (handed _ _ c.from_residual-in_err-carry_out-in-Finishes.ensures.1)
    (rw c.in_err-carry_out-in-Finishes.was at
    (sym
    (run_finishes 32 _ l.word-index _ (omega arith) _ (sym c.decode.ensures ∙ c.in_ok-command.ensures.ok_part) l.self
    c.carry_out-in-Finishes.new.self c.carry_out-in-Finishes.result c.carry_out-in-Finishes.ensures.comes_to _
    c.in-Finishes.ensures))
    ∙ l.invariant.goes_on)

pub returns-in-Finishes : goal.returns-in-Finishes
unfolding traced heard_all events_of
returns-in-Finishes c =
    let l = c.loop-word in
    rw c.in_ok-carry_out-in-Finishes.was at
    (sym
    (run_finishes 32 _ l.word-index _ (omega arith) _ (sym c.decode.ensures ∙ c.in_ok-command.ensures.ok_part) l.self
    c.carry_out-in-Finishes.new.self c.carry_out-in-Finishes.result c.carry_out-in-Finishes.ensures.comes_to _
    c.in-Finishes.ensures))
    ∙ l.invariant.goes_on
