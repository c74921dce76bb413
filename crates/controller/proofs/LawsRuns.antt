-- Laws of a run against the sensor that acknowledges everything, for citing: a command that its effect allows changes nothing of what the
-- rest of the list comes to.
-- Assumes nothing.
use Rattle.std.specs.Prelude.{Some, None}
use Prim.Native.Nat.{ℕ, zero, suc, ◌+◌, ◌≤◌, ◌<◌}
use native.Mathlib.Numerals.{add-one}
use mathlib.Core.Path.{◌≡◌, refl, ◌∙◌}
use mathlib.Core.List.{List, [], ◌∷◌}
use lib.ListN.{length, get_or, take, drop}
use lib.Seq.{drop-cons, drop-length}
use borrow.Author.Tests.{le-leb, lt-leb}
use Rattle.bus.specs.Events.{Acknowledge, ack, nack, Event}
use Rattle.command.specs.declared.Command.{Command}
use Rattle.command.specs.declared.Command.TheVariants.{Start, Write, Read, ReadNack, Stop, End}
use Rattle.command.specs.Word.{meaning_of}
use Rattle.controller.specs.declared.Phase.{Phase}
use Rattle.controller.specs.Rules.{State, halts, goes_on, finishes, effect_of}
use Rattle.controller.specs.Model.{Sensor, Run, done, emit, put, get, obey, run_from, Commands, run_list}
use Rattle.controller.specs.Verdicts.{willing, verdict_of}

-- whatever looks past a run's events sees past a command that is obeyed
module _ {A : Type 0} (seen : Run → A) (past : (e : Event) (r : Run) → seen (emit e r) ≡ seen r) where
  pub put_willing : (bytes : List ℕ) (next : Sensor → Run) → seen (put bytes [] 0 next) ≡ seen (next willing)
  unfolding put
  put_willing [] next = refl
  put_willing (b ∷ bytes) next = past _ _ ∙ put_willing bytes next

  pub get_willing : (a : Acknowledge) (n : ℕ) (next : Sensor → Run) → seen (get a n [] 0 next) ≡ seen (next willing)
  unfolding get
  get_willing a zero next = refl
  get_willing a (suc n) next = past _ _ ∙ get_willing a n next

  pub obey_willing : (c : Command) (s : State) (next : Sensor → Run) → seen (obey c s willing next) ≡ seen (next willing)
  unfolding obey
  obey_willing Start s next = past _ _
  obey_willing (Write n) s next = put_willing (take n s.fifo) next
  obey_willing (Read n) s next = get_willing ack n next
  obey_willing ReadNack s next = get_willing nack 1 next
  obey_willing Stop s next = past _ _
  obey_willing End s next = refl

module _ (f : ℕ) (word : ℕ) (more : List ℕ) (s : State) where
  pub word_malformed : meaning_of word ≡ None → verdict_of (run_from f (word ∷ more) s willing done) ≡ None
  unfolding run_from
  word_malformed e = simp e

  module _ (c : Command) (e : meaning_of word ≡ Some c) where
    pub word_halts : effect_of f c s ≡ halts → verdict_of (run_from f (word ∷ more) s willing done) ≡ None
    unfolding run_from
    word_halts h = simp (e, h)

    pub word_goes :
        (t : State)
        → effect_of f c s ≡ goes_on t
        → verdict_of (run_from f (word ∷ more) s willing done) ≡ verdict_of (run_from f more t willing done)
    unfolding run_from
    word_goes t h = simp (e, h) (obey_willing verdict_of (λ e r. refl) c s (λ j. run_from f more t j done))

    pub word_finishes : (p : Phase) → effect_of f c s ≡ finishes p → verdict_of (run_from f (word ∷ more) s willing done) ≡ Some p
    unfolding run_from
    word_finishes p h = simp (e, h) (obey_willing verdict_of (λ e r. refl) c s (λ j. done p j))

-- a list with too many FIFO bytes is refused, and any other runs from its first word on
module _ (f : ℕ) (l : Commands) (p : Phase) where
  pub fifo_exceeded : f < length l.fifo → verdict_of (run_list f l p willing done) ≡ None
  unfolding run_list
  fifo_exceeded h = simp (lt-leb (length l.fifo) f h)

  pub fifo_fits :
      length l.fifo ≤ f
      → verdict_of (run_list f l p willing done)
      ≡ verdict_of (run_from f l.words (record { phase = p; fifo = l.fifo; received = 0 }) willing done)
  unfolding run_list
  fifo_fits h = simp (le-leb (length l.fifo) f h)

-- from slot i on: the word there comes first; past the last word the list is refused
pub words_here :
    (f : ℕ) (words : List ℕ) (i : ℕ) (s : State)
    → i < length words
    → run_from f (drop i words) s willing done ≡ run_from f (get_or words i 0 ∷ drop (i + 1) words) s willing done
words_here f words i s h = rw (add-one, drop-cons words i 0)

pub words_over :
    (f : ℕ) (words : List ℕ) (i : ℕ) (s : State)
    → i ≡ length words
    → verdict_of (run_from f (drop i words) s willing done) ≡ None
unfolding run_from
words_over f words i s e = rw (e, drop-length words)
