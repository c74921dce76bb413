use Prim.Native.Nat.{ℕ, ◌+◌, ◌<◌}
use mathlib.Core.Path.{◌≡◌, sym, ap, ◌∙◌}
use mathlib.Core.List.{List, ◌∷◌}
use lib.ListN.{length, get_or, drop}
use Rattle.std.specs.Prelude.{Option}
use native.Mathlib.Omega.{arith}
use Rattle.controller.specs.declared.Phase.{Phase}
use Rattle.controller.specs.Rules.{State}
use Rattle.controller.specs.Places.{state_at}
use Rattle.controller.specs.Model.{run_from, done}
use Rattle.controller.specs.Verdicts.{willing, verdict_of}
use Rattle.controller.proofs.LawsRuns.{fifo_exceeded, fifo_fits, words_here, words_over, word_malformed, word_halts, word_goes, word_finishes}
use Rattle.controller.proofs.inspector.inspect_from.Goals as goal

-- the verdict on the word at hand and those after it
here :
    (words : List ℕ) (i : ℕ) (s : State) (verdict : Option Phase)
    → i < length words
    → verdict_of (run_from 32 (drop i words) s willing done) ≡ verdict
    → verdict_of (run_from 32 (get_or words i 0 ∷ drop (i + 1) words) s willing done) ≡ verdict
here words i s verdict h e = sym (ap verdict_of (words_here 32 words i s h)) ∙ e

pub returns-in_err-place : goal.returns-in_err-place
returns-in_err-place c = c.from_residual.ensures ∙ sym (fifo_exceeded 32 _ c.args.phase c.in_err-place.ensures)

pub loop-word-init : goal.loop-word-init
loop-word-init c = let h = c.in_ok-place.ensures in rw h.1 (sym (fifo_fits 32 _ c.args.phase h.0))

pub returns-in_err-decode : goal.returns-in_err-decode
returns-in_err-decode c =
    let l = c.loop-word in
    c.from_residual-in_err-decode.ensures
    ∙ sym (word_malformed 32 _ _ _ (sym c.in_err-decode.ensures))
    ∙ here _ l.word-index _ _ (omega arith) l.invariant

pub returns-in-Halts : goal.returns-in-Halts
returns-in-Halts c =
    let l = c.loop-word in
    sym (word_halts 32 _ _ _ _ (sym c.in_ok-decode.ensures) c.in-Halts.ensures)
    ∙ here _ l.word-index _ _ (omega arith) l.invariant

pub returns-in-Finishes : goal.returns-in-Finishes
returns-in-Finishes c =
    let l = c.loop-word in
    sym (word_finishes 32 _ _ _ _ (sym c.in_ok-decode.ensures) _ c.in-Finishes.ensures)
    ∙ here _ l.word-index _ _ (omega arith) l.invariant

pub loop-word-preserved : goal.loop-word-preserved
loop-word-preserved c =
    let l = c.loop-word in
    sym (word_goes 32 _ _ _ _ (sym c.in_ok-decode.ensures) _ c.in-GoesOn.ensures)
    ∙ here _ l.word-index _ _ (omega arith) l.invariant

pub returns : goal.returns
returns c =
    let l = c.loop-word in
    sym (words_over 32 c.args.list.words l.word-index (state_at l.place) (omega arith)) ∙ l.invariant
