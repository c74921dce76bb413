-- Laws of a run that the code holds as a trace, for citing: what each byte and each word adds.
-- Assumes nothing.
use Rattle.std.specs.Prelude.{Option, Some, None, Result, Ok, Err}
use Prim.Native.Nat.{ℕ, zero, suc, ◌+◌, ◌-◌, ◌≤◌, ◌<◌}
use native.Mathlib.Numerals.{add-one, sub-one}
use native.Mathlib.Omega.{arith}
use mathlib.Core.Path.{◌≡◌, refl, ap, ◌∙◌}
use mathlib.Core.Bool.{Bool, true, false, cond}
use mathlib.Core.List.{List, ◌∷◌}
use lib.ListN.{length, get_or, drop, drop_of_length-le}
use lib.Seq.{drop-cons}
use borrow.Author.Tests.{le-leb, lt-leb}
use Rattle.bus.specs.Events.{Acknowledge, ack, nack}
use Rattle.bus.specs.Traffic.{next_byte}
use Rattle.command.specs.declared.Command.{Command}
use Rattle.command.specs.Word.{meaning_of}
use Rattle.controller.specs.declared.Phase.{Phase}
use Rattle.controller.specs.declared.Phase.TheVariants.{Idle, Started, Writing, Reading, ReadDone}
use Rattle.controller.specs.declared.model.Trace.{Trace}
use Rattle.controller.specs.declared.model.Bench.{Bench}
use Rattle.controller.specs.declared.model.Ending.{Ending}
use Rattle.controller.specs.Rules.{State, halts, goes_on, finishes, effect_of}
use Rattle.controller.specs.Model.{Sensor, Run, stuck, refused, done, put, get, obey, run_from, Commands, run_list, phase_numbered, in_phase, events_of}
use Rattle.controller.specs.Traces.{sent_kind, got_kind}
use Rattle.controller.specs.Tracing.{noted, stored, heard, heard_all, traced, sensor_at, ended, resumed, ComesTo}

module _ (next : Sensor → Run) where
  -- the bytes from place i on: past the last, the next follows. The one at i is refused where the countdown is at 1; else the
  -- countdown goes on
  module _ (bytes sends : List ℕ) (i : ℕ) where
    pub put_over :
        (refuses : ℕ) → length bytes ≤ i → put (drop i bytes) sends refuses next ≡ next (record { sends = sends; refuses = refuses })
    unfolding put
    put_over refuses h = rw (drop_of_length-le bytes {i = i} h)

    module _ (t : Trace) (here : i < length bytes) where
      pub put_refused : traced t (put (drop i bytes) sends 1 next) ≡ traced (noted t (sent_kind nack) (get_or bytes i 0)) refused
      unfolding traced heard_all heard events_of put
      put_refused = rw (drop-cons bytes i 0)

      pub put_acknowledged :
          (refuses : ℕ)
          → (refuses ≡ 1 → ⊥)
          → traced t (put (drop i bytes) sends refuses next)
          ≡ traced (noted t (sent_kind ack) (get_or bytes i 0)) (put (drop (i + 1) bytes) sends (refuses - 1) next)
      unfolding traced heard_all heard events_of put
      put_acknowledged refuses other = rw (add-one i, drop-cons bytes i 0) (onwards refuses other)
        where
          onwards :
              (refuses : ℕ)
              → (refuses ≡ 1 → ⊥)
              → traced t (put (get_or bytes i 0 ∷ drop (suc i) bytes) sends refuses next)
              ≡ traced (noted t (sent_kind ack) (get_or bytes i 0)) (put (drop (suc i) bytes) sends (refuses - 1) next)
          onwards zero other = refl
          onwards (suc zero) other = absurd (other refl)
          onwards (suc (suc refuses)) other = rw sub-one

  -- n bytes to receive, and i of them received
  module _ (a : Acknowledge) (n i : ℕ) (sends : List ℕ) (refuses : ℕ) where
    pub get_over : n ≤ i → get a (n - i) sends refuses next ≡ next (record { sends = sends; refuses = refuses })
    unfolding get
    get_over h =
        let none : n - i ≡ 0 = omega arith in
        rw none

    pub get_next :
        (t : Trace)
        → i < n
        → traced t (get a (n - i) sends refuses next)
        ≡ traced (stored (noted t (got_kind a) (next_byte sends)) (next_byte sends)) (get a (n - (i + 1)) (drop 1 sends) refuses next)
    unfolding traced heard_all heard events_of get
    get_next t h =
        let one : n - i ≡ suc (n - (i + 1)) = omega arith in
        rw one

-- from slot i on: the word there is malformed, or its command halts the controller, finishes the list or goes on; past the last
-- word the controller is stuck
module _ (f : ℕ) (words : List ℕ) (i : ℕ) (s : State) where
  module _ (here : i < length words) where
    pub run_malformed : (k : Sensor) → meaning_of (get_or words i 0) ≡ None → run_from f (drop i words) s k done ≡ stuck
    unfolding run_from
    run_malformed k e = rw (drop-cons words i 0 here, e)

    module _ (c : Command) (e : meaning_of (get_or words i 0) ≡ Some c) where
      pub run_halts : (k : Sensor) → effect_of f c s ≡ halts → run_from f (drop i words) s k done ≡ stuck
      unfolding run_from
      run_halts k h = rw (drop-cons words i 0 here, e, h)

      module _ (b o : Bench) (result : Result (Unit {0}) Ending) (obeyed : ComesTo b (obey c s) result o) where
        pub run_finishes :
            (p : Phase)
            → effect_of f c s ≡ finishes p
            → traced b.trace (run_from f (drop i words) s (sensor_at b) done) ≡ resumed result o (done p)
        unfolding run_from
        run_finishes p h = rw (drop-cons words i 0 here, e, h) (obeyed (done p))

        module _ (t : State) (h : effect_of f c s ≡ goes_on t) where
          run_resumed :
              traced b.trace (run_from f (drop i words) s (sensor_at b) done)
              ≡ resumed result o (λ j. run_from f (drop (i + 1) words) t j done)
          unfolding run_from
          run_resumed = rw (add-one i, drop-cons words i 0 here, e, h) (obeyed (λ j. run_from f (drop (suc i) words) t j done))

          pub run_cut :
              (ending : Ending)
              → result ≡ Err ending
              → traced b.trace (run_from f (drop i words) s (sensor_at b) done) ≡ ended (Err ending) o
          run_cut ending cut = rw cut at run_resumed

          pub run_goes :
              (all : Unit {0})
              → result ≡ Ok all
              → traced b.trace (run_from f (drop i words) s (sensor_at b) done)
              ≡ traced o.trace (run_from f (drop (i + 1) words) t (sensor_at o) done)
          run_goes all whole = rw whole at run_resumed

  pub run_over : (k : Sensor) → length words ≤ i → run_from f (drop i words) s k done ≡ stuck
  unfolding run_from
  run_over k h = rw (drop_of_length-le words {i = i} h)

-- a list with too many FIFO bytes gets stuck, and any other runs from its first word on
module _ (f : ℕ) (l : Commands) (p : Phase) (k : Sensor) where
  pub list_exceeds : f < length l.fifo → run_list f l p k done ≡ stuck
  unfolding run_list
  list_exceeds h = rw (lt-leb (length l.fifo) f h)

  pub list_runs :
      length l.fifo ≤ f → run_list f l p k done ≡ run_from f l.words (record { phase = p; fifo = l.fifo; received = 0 }) k done
  unfolding run_list
  list_runs h = rw (le-leb (length l.fifo) f h)

-- from a number: it is a phase's, or the controller is stuck
abbrev on_phase : Option Phase → (Phase → Run) → Run
on_phase None run = stuck
on_phase (Some p) run = run p

cond_on :
    (b : Bool) (p : Phase) (o : Option Phase) (r : Run) (run : Phase → Run)
    → r ≡ on_phase o run
    → cond b (run p) r ≡ on_phase (cond b (Some p) o) run
cond_on true p o r run h = refl
cond_on false p o r run h = h

phase_on : (n : ℕ) (run : Phase → Run) → in_phase n run ≡ on_phase (phase_numbered n) run
unfolding in_phase
phase_on n run =
    cond_on _ Idle _ _ run
    (cond_on _ Started _ _ run (cond_on _ Writing _ _ run (cond_on _ Reading _ _ run (cond_on _ ReadDone None _ run refl))))

module _ (n : ℕ) (run : Phase → Run) where
  pub phase_unknown : phase_numbered n ≡ None → in_phase n run ≡ stuck
  phase_unknown e = phase_on n run ∙ ap (λ o. on_phase o run) e

  pub phase_known : (p : Phase) → phase_numbered n ≡ Some p → in_phase n run ≡ run p
  phase_known p e = phase_on n run ∙ ap (λ o. on_phase o run) e
