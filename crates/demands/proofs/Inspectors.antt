-- Our inspector is sound and complete, and each wrong one fails one of the two. Over every size of the FIFO.
-- Assumes nothing.
use Rattle.std.specs.Prelude.{Option, Some, None}
use Prim.Native.Nat.{ℕ, zero, suc, ◌≤◌}
use native.Mathlib.Omega.{arith}
use mathlib.Core.Path.{◌≡◌, refl, sym, ◌∙◌}
use mathlib.Core.Bool.{Bool, true, false, cond}
use mathlib.Core.List.{List, [], ◌∷◌}
use lib.ListN.{length, take, drop}
use lib.Dec.{leb, eqb, leb-zero}
use borrow.Author.Tests.{le-leb}
use Rattle.bus.specs.Events.{Acknowledge, ack, nack, Event}
use Rattle.command.specs.declared.Command.{Command}
use Rattle.command.specs.declared.Command.TheVariants.{Start, Write, Read, ReadNack, Stop, End}
use Rattle.command.specs.Word.{meaning_of, within}
use Rattle.controller.specs.declared.Phase.{Phase}
use Rattle.controller.specs.declared.Phase.TheVariants.{Idle, Started, Writing, Reading, ReadDone}
use Rattle.controller.specs.Rules.{State, Effect, halts, goes_on, finishes, effect_of}
use Rattle.controller.specs.Model.{Sensor, Run, stuck, refused, done, emit, put, get, obey, meant, follow, run_from, Commands, run_list, in_phase, end_of}
use Rattle.controller.specs.Verdicts.{willing, run_one, verdict_of, inspected}
use Rattle.controller.proofs.LawsRuns.{obey_willing}
use Rattle.demands.specs.Inspectors.{Sound, Complete, refuses_all, passes_all, looks_past_the_finish, forgets_the_fifo}

-- a run that does not end stuck
abbrev Free : Run → Type 0
Free r = end_of r ≡ stuck → ⊥

past : (e : Event) (r : Run) → end_of (emit e r) ≡ end_of r
unfolding end_of
past e r = refl

-- whatever a sensor answers to a command, the run goes on with some sensor or ends refused, so it is free if all that follows is
module _ (next : Sensor → Run) (free : (k : Sensor) → Free (next k)) where
  put_free : (bytes sends : List ℕ) (refuses : ℕ) → Free (put bytes sends refuses next)
  unfolding put end_of
  put_free [] sends refuses e = free _ e
  put_free (b ∷ bytes) sends zero e = put_free bytes sends zero e
  put_free (b ∷ bytes) sends (suc zero) e = let z : ◌≡◌ {A = ℕ} 0 1 = cc in omega arith
  put_free (b ∷ bytes) sends (suc (suc r)) e = put_free bytes sends (suc r) e

  get_free : (a : Acknowledge) (n : ℕ) (sends : List ℕ) (refuses : ℕ) → Free (get a n sends refuses next)
  unfolding get end_of
  get_free a zero sends refuses e = free _ e
  get_free a (suc n) sends refuses e = get_free a n (drop 1 sends) refuses e

  obey_free : (c : Command) (s : State) (k : Sensor) → Free (obey c s k next)
  unfolding obey end_of
  obey_free Start s k e = free k e
  obey_free (Write n) s k e = put_free (take n s.fifo) k.sends k.refuses e
  obey_free (Read n) s k e = get_free ack n k.sends k.refuses e
  obey_free ReadNack s k e = get_free nack 1 k.sends k.refuses e
  obey_free Stop s k e = free k e
  obey_free End s k e = free k e

done_free : (p : Phase) (k : Sensor) → Free (done p k)
unfolding end_of
done_free p k e = let z : ◌≡◌ {A = ℕ} 0 1 = cc in omega arith

passes_no_refusal : (p : Phase) → Some p ≡ None → ⊥
passes_no_refusal p e = let z : ◌≡◌ {A = ℕ} 0 1 = cc in omega arith

-- one word in front of what is known of the rest
module _ (f : ℕ) (more : List ℕ) (s : State) where
  on : State → Sensor → Run
  on u j = run_from f more u j done

  module _ (rest : (u : State) → Free (on u willing) → (k : Sensor) → Free (on u k)) (k : Sensor) where
    turn_free : (c : Command) (t : Effect) → Free (follow t (obey c s willing) on done) → Free (follow t (obey c s k) on done)
    turn_free c halts h = h
    turn_free c (goes_on u) h = obey_free (on u) (rest u (λ e. h (obey_willing end_of past c s (on u) ∙ e))) c s k
    turn_free c (finishes p) h = obey_free (done p) (done_free p) c s k

    meaning_free :
        (m : Option Command)
        → Free (meant m (λ c. follow (effect_of f c s) (obey c s willing) on done))
        → Free (meant m (λ c. follow (effect_of f c s) (obey c s k) on done))
    meaning_free None h = h
    meaning_free (Some c) h = turn_free c (effect_of f c s) h

  module _ (rest : (u : State) → verdict_of (on u willing) ≡ None → end_of (on u willing) ≡ stuck) where
    turn_stuck :
        (c : Command) (t : Effect)
        → verdict_of (follow t (obey c s willing) on done) ≡ None
        → end_of (follow t (obey c s willing) on done) ≡ stuck
    unfolding end_of
    turn_stuck c halts h = refl
    turn_stuck c (goes_on u) h =
        obey_willing end_of past c s (on u) ∙ rest u (sym (obey_willing verdict_of (λ e r. refl) c s (on u)) ∙ h)
    turn_stuck c (finishes p) h = absurd (passes_no_refusal p (sym (obey_willing verdict_of (λ e r. refl) c s (done p)) ∙ h))

    meaning_stuck :
        (m : Option Command)
        → verdict_of (meant m (λ c. follow (effect_of f c s) (obey c s willing) on done)) ≡ None
        → end_of (meant m (λ c. follow (effect_of f c s) (obey c s willing) on done)) ≡ stuck
    unfolding end_of
    meaning_stuck None h = refl
    meaning_stuck (Some c) h = turn_stuck c (effect_of f c s) h

module _ (f : ℕ) where
  -- what is free against the willing sensor is free against every sensor
  words_free : (ws : List ℕ) (s : State) → Free (run_from f ws s willing done) → (k : Sensor) → Free (run_from f ws s k done)
  unfolding run_from on
  words_free [] s h k = h
  words_free (word ∷ more) s h k = meaning_free f more s (words_free more) k (meaning_of word) h

  -- against the willing sensor a run is refused only where it is stuck
  words_stuck : (ws : List ℕ) (s : State) → verdict_of (run_from f ws s willing done) ≡ None → end_of (run_from f ws s willing done) ≡ stuck
  unfolding run_from on end_of
  words_stuck [] s h = refl
  words_stuck (word ∷ more) s h = meaning_stuck f more s (words_stuck more) (meaning_of word) h

  -- the same of a whole list
  list_free : (l : Commands) (p : Phase) → Free (run_list f l p willing done) → (k : Sensor) → Free (run_list f l p k done)
  unfolding run_list
  list_free l p = go (leb (length l.fifo) f)
    where
      start : State
      start = record { phase = p; fifo = l.fifo; received = 0 }

      go :
          (t : Bool)
          → Free (cond t (run_from f l.words start willing done) stuck)
          → (k : Sensor)
          → Free (cond t (run_from f l.words start k done) stuck)
      go true h k = words_free l.words start h k
      go false h k = h

  list_stuck : (l : Commands) (p : Phase) → verdict_of (run_list f l p willing done) ≡ None → end_of (run_list f l p willing done) ≡ stuck
  unfolding run_list end_of
  list_stuck l p = go (leb (length l.fifo) f)
    where
      start : State
      start = record { phase = p; fifo = l.fifo; received = 0 }

      go :
          (t : Bool)
          → verdict_of (cond t (run_from f l.words start willing done) stuck) ≡ None
          → end_of (cond t (run_from f l.words start willing done) stuck) ≡ stuck
      go true h = words_stuck l.words start h
      go false h = refl

-- what holds of two runs from each phase, and of being stuck, holds of the runs from any number
by_phase :
    (P : Run → Run → Type 0) (r q : Phase → Run)
    → ((p : Phase) → P (r p) (q p))
    → P stuck stuck
    → (n : ℕ)
    → P (in_phase n r) (in_phase n q)
unfolding in_phase
by_phase P r q each none n = go (eqb n 0) (eqb n 1) (eqb n 2) (eqb n 3) (eqb n 4)
  where
    go :
        (a b c d e : Bool)
        → P (cond a (r Idle) (cond b (r Started) (cond c (r Writing) (cond d (r Reading) (cond e (r ReadDone) stuck)))))
        (cond a (q Idle) (cond b (q Started) (cond c (q Writing) (cond d (q Reading) (cond e (q ReadDone) stuck)))))
    go true b c d e = each Idle
    go false true c d e = each Started
    go false false true d e = each Writing
    go false false false true e = each Reading
    go false false false false true = each ReadDone
    go false false false false false = none

passes_free : (r : Run) (p : Phase) → verdict_of r ≡ Some p → Free r
unfolding end_of
passes_free stuck p h = absurd (passes_no_refusal p (sym h))
passes_free refused p h = absurd (passes_no_refusal p (sym h))
passes_free (done q k) p h = done_free q k
passes_free (emit e r) p h = passes_free r p h

module _ (f : ℕ) where
  pub inspector_sound : Sound f (inspected f)
  unfolding inspected
  inspector_sound l n p h k =
      by_phase (λ r q. Free r → Free q) (λ p. run_list f l p willing done) (λ p. run_list f l p k done) (λ p h. list_free f l p h k)
      (λ h. h) n (passes_free _ p h)

  pub inspector_complete : Complete f (inspected f)
  unfolding inspected end_of
  inspector_complete l n h =
      by_phase (λ r q. verdict_of r ≡ None → end_of q ≡ stuck) (λ p. run_list f l p willing done) (λ p. run_list f l p willing done)
      (λ p h. list_stuck f l p h) (λ h. refl) n h

  -- a bare END in Writing finishes, whatever stands after it
  end_finishes :
      (more : List ℕ) → end_of (run_one f (record { words = 0x2000 ∷ more; fifo = [] }) 2 willing) ≡ done Writing willing
  unfolding in_phase run_list run_from effect_of obey meaning_of within end_of
  end_finishes more = rw (leb-zero f)

  no_stuck_end : (more : List ℕ) → end_of (run_one f (record { words = 0x2000 ∷ more; fifo = [] }) 2 willing) ≡ stuck → ⊥
  no_stuck_end more e = let d = end_finishes more in let z : ◌≡◌ {A = ℕ} 0 1 = cc in omega arith

  -- the wrong inspectors, each refuted
  pub refuses_all_refuted : Complete f refuses_all → ⊥
  refuses_all_refuted complete = no_stuck_end [] (complete (record { words = 0x2000 ∷ []; fifo = [] }) 2 refl)

  pub passes_all_refuted : Sound f passes_all → ⊥
  unfolding in_phase run_list run_from end_of
  passes_all_refuted sound = sound (record { words = []; fifo = [] }) 0 Idle refl willing (rw (leb-zero f))

  pub past_the_finish_refuted : Complete f (looks_past_the_finish f) → ⊥
  unfolding meaning_of within
  past_the_finish_refuted complete = no_stuck_end (0 ∷ []) (complete (record { words = 0x2000 ∷ 0 ∷ []; fifo = [] }) 2 refl)

  -- one byte is left in the FIFO at END
  pub forgotten_fifo_refuted : 1 ≤ f → Sound f (forgets_the_fifo f) → ⊥
  unfolding inspected in_phase run_list run_from effect_of obey meaning_of within end_of
  forgotten_fifo_refuted small sound =
      sound (record { words = 0x2000 ∷ []; fifo = 7 ∷ [] }) 2 Writing (rw (leb-zero f)) willing (rw (le-leb 1 f small))
