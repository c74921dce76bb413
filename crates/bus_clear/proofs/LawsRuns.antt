-- Laws of a run, for citing: what is left of it after k polls and m pin changes, by what the next poll answers.
-- Assumes nothing.
use Prim.Native.Nat.{ℕ, suc, ◌+◌, ◌-◌, ◌≤◌, ◌<◌, min}
use native.Mathlib.Omega.{arith}
use native.Mathlib.Numerals.{add-one}
use mathlib.Core.Path.{◌≡◌, refl}
use mathlib.Core.Logic.{◌⊎◌, inl, inr}
use mathlib.Core.Bool.{true, false, not}
use mathlib.Core.List.{List, [], append-nil}
use lib.ListN.{length, get_or, drop, length-append, length-map, drop_of_length-le}
use lib.Seq.{drop-cons}
use lib.Dec.{eqb}
use Rattle.std.proofs.lemmas.Bool.{cases_lt}
use Rattle.bus_clear.specs.declared.Pins.{Pins}
use Rattle.bus_clear.specs.declared.Pins.TheVariants.{Still, SclLow, SclHigh, SdaHigh, SdaLowSclHigh, SclHighSdaLow, SclLowSdaHigh, SclHighSdaHigh}
use Rattle.bus_clear.specs.declared.BusClear.{BusClear}
use Rattle.bus_clear.specs.declared.Answer.{Answer}
use Rattle.bus_clear.specs.declared.Answer.TheVariants as answer
use Rattle.bus_clear.specs.declared.Stepped.{Stepped}
use Rattle.bus_clear.specs.declared.run.Terms.{Terms}
use Rattle.bus_clear.specs.declared.run.Polls.{Polls}
use Rattle.bus_clear.specs.declared.run.Ending.{Ending}
use Rattle.bus_clear.specs.declared.run.Ending.TheVariants.{Ready, GivenUp, Spent, TapeOver, ClockRange}
use Rattle.bus_clear.specs.Pins.{changes_of, change_bytes}
use Rattle.bus_clear.specs.Clear.{step_of}
use Rattle.bus_clear.specs.Runs.{tape_of, Polled, exceeded, answered, poll_all, counted_of}

-- k polls and m changes before
abbrev pub plus : ℕ → ℕ → Polls → Polls
plus k m p = record { ending = p.ending; polls = k + p.polls; clear = p.clear; changes = m + p.changes }

abbrev pub counts : Ending → ℕ → BusClear → ℕ → Polls
counts e k c m = record { ending = e; polls = k; clear = c; changes = m }

-- the same polls and changes, by equal numbers
same : (e : Ending) (c : BusClear) (k l m n : ℕ) → k ≡ l → m ≡ n → counts e k c m ≡ counts e l c n
same e c k l m n p q = rw (p, q)

module _ (t : Terms) (clocks levels : List ℕ) where
  -- what is left after k polls
  abbrev pub left : BusClear → ℕ → Polled
  left c k = poll_all t (t.budget - k) (tape_of (drop k clocks) (drop k levels)) c

  module _ (c : BusClear) (k m : ℕ) where
    pub polls_spent : k ≡ t.budget → plus k m (counted_of (left c k)) ≡ counts Spent k c m
    unfolding poll_all
    polls_spent e =
        let none : t.budget - k ≡ 0 = omega arith in
        rw none (same Spent c (k + 0) k (m + 0) m (omega arith) (omega arith))

    module _ (more : k < t.budget) where
      one_more : t.budget - k ≡ suc (t.budget - (k + 1))
      one_more = omega arith

      no_tape : tape_of (drop k clocks) (drop k levels) ≡ [] → plus k m (counted_of (left c k)) ≡ counts TapeOver k c m
      unfolding poll_all
      no_tape e = rw (one_more, e) (same TapeOver c (k + 0) k (m + 0) m (omega arith) (omega arith))

      pub clocks_over : length clocks ≤ k → plus k m (counted_of (left c k)) ≡ counts TapeOver k c m
      unfolding tape_of
      clocks_over h = no_tape (rw (drop_of_length-le clocks h))

      pub levels_over : k < length clocks → length levels ≤ k → plus k m (counted_of (left c k)) ≡ counts TapeOver k c m
      unfolding tape_of
      levels_over g h = no_tape (rw (drop-cons clocks k 0 g, drop_of_length-le levels h))

      -- whichever of the two is over first
      pub tape_over : min (length clocks) (length levels) ≤ k → plus k m (counted_of (left c k)) ≡ counts TapeOver k c m
      tape_over h = go (cases_lt k (length clocks))
        where
          go : (k < length clocks) ⊎ (length clocks ≤ k) → plus k m (counted_of (left c k)) ≡ counts TapeOver k c m
          go (inl g) = levels_over g (omega arith)
          go (inr g) = clocks_over g

      module _
          (g : k < length clocks) (h : k < length levels) (r : Stepped)
          (stepped : r ≡ step_of c t.pins (get_or clocks k 0) (not (eqb (get_or levels k 0) 0)))
        where
          turned :
              left c k
              ≡ answered r.answer c r.next (exceeded t (get_or clocks k 0)) (left r.next (k + 1))
          unfolding poll_all tape_of
          turned = rw (one_more, drop-cons clocks k 0 g, drop-cons levels k 0 h, add-one, stepped)

          at_answer :
              (a : Answer)
              → r.answer ≡ a
              → left c k ≡ answered a c r.next (exceeded t (get_or clocks k 0)) (left r.next (k + 1))
          at_answer a p = rw p at turned

          pub out_of_range : r.answer ≡ answer.ClockRange → plus k m (counted_of (left c k)) ≡ counts ClockRange k c m
          out_of_range p = rw (at_answer answer.ClockRange p) (same ClockRange c (k + 0) k (m + 0) m (omega arith) (omega arith))

          pub is_ready : r.answer ≡ answer.Ready → plus k m (counted_of (left c k)) ≡ counts Ready (k + 1) r.next m
          is_ready p = rw (at_answer answer.Ready p) (same Ready r.next (k + suc 0) (k + 1) (m + 0) m (omega arith) (omega arith))

          module _ (x : Pins) (p : r.answer ≡ answer.Pending x) where
            pub gives_up :
                exceeded t (get_or clocks k 0) ≡ true
                → plus k m (counted_of (left c k)) ≡ counts GivenUp (k + 1) r.next (m + length (changes_of x))
            gives_up late =
                rw (at_answer (answer.Pending x) p, late, append-nil (changes_of x))
                (same GivenUp r.next (k + suc 0) (k + 1) (m + length (changes_of x)) (m + length (changes_of x)) (omega arith) refl)

            pub goes_on :
                exceeded t (get_or clocks k 0) ≡ false
                → plus k m (counted_of (left c k)) ≡ plus (k + 1) (m + length (changes_of x)) (counted_of (left r.next (k + 1)))
            goes_on late =
                let q : Polled = left r.next (k + 1) in
                rw (at_answer (answer.Pending x) p, late, length-append (changes_of x) q.changes)
                (same q.ending q.clear (k + suc q.polls) (k + 1 + q.polls)
                (m + (length (changes_of x) + length q.changes)) (m + length (changes_of x) + length q.changes) (omega arith) (omega arith))

  pub from_start : (c : BusClear) → plus 0 0 (counted_of (left c 0)) ≡ counted_of (poll_all t t.budget (tape_of clocks levels) c)
  from_start c =
      let all : t.budget - 0 ≡ t.budget = omega arith in
      let q : Polled = poll_all t t.budget (tape_of clocks levels) c in
      rw all (same q.ending q.clear (0 + q.polls) q.polls (0 + length q.changes) (length q.changes) (omega arith) (omega arith))

-- a poll makes at most two pin changes
pub few_changes : (x : Pins) → length (changes_of x) ≤ 2
few_changes Still = omega arith
few_changes SclLow = omega arith
few_changes SclHigh = omega arith
few_changes SdaHigh = omega arith
few_changes SdaLowSclHigh = omega arith
few_changes SclHighSdaLow = omega arith
few_changes SclLowSdaHigh = omega arith
few_changes SclHighSdaHigh = omega arith

-- and has as many bytes of them
pub length-bytes : (x : Pins) → length (change_bytes x) ≡ length (changes_of x)
length-bytes x = simp length-map

pub few_bytes : (x : Pins) → length (change_bytes x) ≤ 2
few_bytes x = omega (arith, few_changes x, length-bytes x)
