-- Laws of lists in turn: against the sensor that acknowledges everything, a run over several lists passes where each passes from the
-- phase that the one before it leaves.
-- Assumes nothing.
use Rattle.std.specs.Prelude.{Option, Some, None}
use Prim.Native.Nat.{ℕ}
use mathlib.Core.Path.{◌≡◌, refl, sym, ap, ◌∙◌, fun_ext}
use mathlib.Core.Bool.{Bool, true, false, cond}
use mathlib.Core.List.{List, [], ◌∷◌}
use lib.ListN.{length}
use lib.Dec.{leb}
use Rattle.command.specs.declared.Command.{Command}
use Rattle.command.specs.Word.{meaning_of}
use Rattle.controller.specs.declared.Phase.{Phase}
use Rattle.controller.specs.Rules.{State, Effect, halts, goes_on, finishes, effect_of}
use Rattle.controller.specs.Model.{Sensor, Run, stuck, done, obey, follow, meant, run_from, Commands, run_list, run_lists}
use Rattle.controller.specs.Verdicts.{willing, verdict_of, inspected}
use Rattle.controller.proofs.LawsRuns.{obey_willing}
use Rattle.demands.specs.Planners.{passing_on, in_turn}
use Rattle.demands.proofs.LawsBuilt.{in_its_phase}

module _ (f : ℕ) (finish : Phase → Sensor → Run) where
  abbrev next : Phase → Option Phase
  next p = verdict_of (finish p willing)

  obeyed : (c : Command) (s : State) (on : Sensor → Run) → verdict_of (obey c s willing on) ≡ verdict_of (on willing)
  obeyed c s on = obey_willing verdict_of (λ e r. refl) c s on

  -- what is to be shown of the words that follow
  abbrev Shown : List ℕ → State → Type 0
  Shown words s = verdict_of (run_from f words s willing finish) ≡ passing_on (verdict_of (run_from f words s willing done)) next

  words_then : (words : List ℕ) (s : State) → Shown words s
  unfolding run_from
  words_then [] s = refl
  words_then (word ∷ more) s = by_meaning (λ u. words_then more u) (meaning_of word)
    where
      by_turn :
          (rest : (u : State) → Shown more u) (c : Command) (t : Effect)
          → verdict_of (follow t (obey c s willing) (λ u j. run_from f more u j finish) finish)
          ≡ passing_on (verdict_of (follow t (obey c s willing) (λ u j. run_from f more u j done) done)) next
      by_turn rest c halts = refl
      by_turn rest c (goes_on u) =
          obeyed c s _ ∙ rest u ∙ ap (λ (v : Option Phase). passing_on v next) (sym (obeyed c s (λ j. run_from f more u j done)))
      by_turn rest c (finishes p) = obeyed c s _ ∙ ap (λ (v : Option Phase). passing_on v next) (sym (obeyed c s (done p)))

      by_meaning :
          (rest : (u : State) → Shown more u) (m : Option Command)
          → verdict_of (meant m (λ c. follow (effect_of f c s) (obey c s willing) (λ u j. run_from f more u j finish) finish))
          ≡ passing_on (verdict_of (meant m (λ c. follow (effect_of f c s) (obey c s willing) (λ u j. run_from f more u j done) done))) next
      by_meaning rest None = refl
      by_meaning rest (Some c) = by_turn rest c (effect_of f c s)

  list_then :
      (l : Commands) (p : Phase) → verdict_of (run_list f l p willing finish) ≡ passing_on (verdict_of (run_list f l p willing done)) next
  unfolding run_list
  list_then l p = by_room (leb (length l.fifo) f)
    where
      by_room :
          (room : Bool)
          → verdict_of (cond room (run_from f l.words (record { phase = p; fifo = l.fifo; received = 0 }) willing finish) stuck)
          ≡ passing_on (verdict_of (cond room (run_from f l.words (record { phase = p; fifo = l.fifo; received = 0 }) willing done) stuck)) next
      by_room true = words_then l.words (record { phase = p; fifo = l.fifo; received = 0 })
      by_room false = refl

pub in_turn_runs : (f : ℕ) (ls : List Commands) (p : Phase) → in_turn f ls p ≡ verdict_of (run_lists f ls p willing)
unfolding in_turn run_lists inspected
in_turn_runs f [] p = refl
in_turn_runs f (l ∷ ls) p =
    ap (λ (r : Run). passing_on (verdict_of r) (λ q. in_turn f ls q)) (in_its_phase p (λ q. run_list f l q willing done))
    ∙ ap (λ (g : Phase → Option Phase). passing_on (verdict_of (run_list f l p willing done)) g) (fun_ext (λ q. in_turn_runs f ls q))
    ∙ sym (list_then f (λ q j. run_lists f ls q j) l p)
