-- Laws of the calls at the turn that a walk has found.
-- Assumes nothing.
use Rattle.std.specs.Prelude.{Ok, Err}
use Prim.Native.Nat.{ℕ, zero, suc, ◌+◌, ◌≤◌, ◌<◌}
use native.Mathlib.Nat.{zero-add}
use native.Mathlib.Omega.{arith}
use mathlib.Core.Path.{◌≡◌, refl, sym, ap, ◌∙◌}
use mathlib.Core.Bool.{true, false, not, false≢true}
use mathlib.Core.List.{List, [], ◌∷◌}
use lib.ListN.{length, take, drop, length-drop}
use lib.Seq.{paste, length-take-le}
use borrow.Author.Tests.{lt-ltb, le-ltb}
use Rattle.bus.specs.Events.{to_sensor, from_sensor}
use Rattle.bus.specs.Operations.{Operation, write, read, kept}
use Rattle.chunks.specs.Pieces.{pieces}
use Rattle.chunks.proofs.Pieces.{pieces_sum}
use Rattle.refusal.specs.declared.Refusal.TheVariants.{Shape, Room, OutOfTurn}
use Rattle.outcome.specs.declared.Snapshot.{Snapshot}
use Rattle.outcome.specs.Outcomes.{classify_of, received_of}
use Rattle.script.specs.Records.{records_of}
use Rattle.script.specs.Scripts.{read_total}
use Rattle.turns.specs.Steps.{Step, write_step, read_step, Before, nothing, after, starts, is_empty, read_follows, write_steps, read_steps, steps_from}
use Rattle.turns.specs.Turns.{turn, receives, with_list, turns_of}
use Rattle.turns.proofs.LawsTurns.{all_received, with_list_received, received_append, write_received, read_received, turn_received}
use Rattle.transaction.specs.declared.walk.Found.{Found}
use Rattle.transaction.specs.declared.walk.Found.TheVariants.{Write, Read, Over, Beyond}
use Rattle.transaction.specs.declared.Progress.{Progress}
use Rattle.transaction.specs.declared.Completed.{Completed}
use Rattle.transaction.specs.declared.Settings.{Settings}
use Rattle.transaction.specs.declared.Handed.{Handed}
use Rattle.transaction.specs.declared.Handing.TheVariants as handing
use Rattle.transaction.specs.Deadlines.{due_of}
use Rattle.transaction.specs.Walk.{or_none, turn_of, is_turn, Inside, size_of, list_for, takes, lands_at, misplaced, turn_in}
use Rattle.transaction.specs.Calls.{without_list, handed_by, out_of_turn, turn_handed, keeping, told_by, turn_completed, laid}

-- all that is received is what the operations read
pub received_all : (b : Before) (os : List Operation) → all_received (steps_from 31 b (kept os)) ≡ read_total os
unfolding all_received steps_from kept read_total
received_all b [] = refl
received_all b (write bytes ∷ os) =
    let steps = write_steps (pieces 31 (length bytes)) bytes (starts b to_sensor) (is_empty (kept os)) in
    received_append steps (steps_from 31 (after to_sensor) (kept os))
    ∙ rw (write_received (pieces 31 (length bytes)) bytes (starts b to_sensor) (is_empty (kept os)), zero-add)
    (received_all (after to_sensor) os)
received_all b (read zero ∷ os) = rw zero-add (received_all b os)
received_all b (read (suc n) ∷ os) =
    let steps = read_steps (pieces 31 (suc n)) (starts b from_sensor) (is_empty (kept os)) (read_follows (kept os)) in
    received_append steps (steps_from 31 (after from_sensor) (kept os))
    ∙ rw (
      read_received (pieces 31 (suc n)) (starts b from_sensor) (is_empty (kept os)) (read_follows (kept os)),
      pieces_sum 31 (omega arith) (suc n),
    )
    (ap (λ (m : ℕ). suc n + m) (received_all (after from_sensor) os))

pub turns_received : (os : List Operation) → all_received (turns_of 31 os) ≡ read_total os
unfolding turns_of
turns_received os = with_list_received (steps_from 31 nothing (kept os)) ∙ received_all nothing os

-- where a turn's bytes land, there is room for them
module _ (s : List ℕ) (place : ℕ) where
  abbrev os : List Operation
  os = or_none (records_of (drop 3 s))

  inside : (step : Step) (at : ℕ) → turn step at ≡ turn_in s place → at + receives step ≤ read_total os
  inside step at e =
      let all = with_list_received (steps_from 31 nothing (kept os)) ∙ received_all nothing os in
      omega (arith, all, turn_received 0 place (with_list (steps_from 31 nothing (kept os))) step at (sym e))

  pub lands_inside : (found : Found) → turn_of s found ≡ turn_in s place → lands_at found + takes found ≤ read_total os
  lands_inside (Write from n start stop landing) e = inside (write_step (take n (drop from s)) start stop) landing e
  lands_inside (Read n start stop continues landing) e = inside (read_step n start stop continues) landing e
  lands_inside Over e = omega arith
  lands_inside Beyond e = omega arith

-- out of turn: a list is outstanding, or the transaction has failed
module _ (p : Progress) where
  pub outstanding_out : p.outstanding ≡ true → out_of_turn p ≡ true
  outstanding_out e = rw e

  pub failed_out : p.outstanding ≡ false → p.failed ≡ true → out_of_turn p ≡ true
  failed_out e f = rw (e, f)

-- the next list, refusal by refusal
module _ (s : List ℕ) (p : Progress) (settings : Settings) (address time : ℕ) where
  abbrev handed : Found → Handed
  handed found = turn_handed (turn_of s found) p settings address time

  pub handed_misplaced :
      (found : Found) → misplaced found p.outstanding ≡ true → without_list (Err Shape) p ≡ handed found
  handed_misplaced (Write from n start stop landing) h = absurd (false≢true h)
  handed_misplaced (Read n start stop continues landing) h = absurd (false≢true h)
  handed_misplaced Over h = rw h
  handed_misplaced Beyond h = refl

  pub handed_out_of_turn :
      (found : Found)
      → misplaced found p.outstanding ≡ false
      → out_of_turn p ≡ true
      → without_list (Err OutOfTurn) p ≡ handed found
  handed_out_of_turn (Write from n start stop landing) h o = rw o
  handed_out_of_turn (Read n start stop continues landing) h o = rw o
  handed_out_of_turn Over h o = rw (o, h)
  handed_out_of_turn Beyond h o = absurd (false≢true (sym h))

  module _ (waits : p.outstanding ≡ false) (fails : p.failed ≡ false) where
    pub handed_none :
        (found : Found)
        → misplaced found p.outstanding ≡ false
        → not (is_turn found) ≡ true
        → without_list (Ok handing.NoneLeft) p ≡ handed found
    handed_none (Write from n start stop landing) h o = absurd (false≢true o)
    handed_none (Read n start stop continues landing) h o = absurd (false≢true o)
    handed_none Over h o = rw (waits, fails)
    handed_none Beyond h o = absurd (false≢true (sym h))

    pub handed_list :
        (found : Found)
        → Inside (length s) found
        → not (is_turn found) ≡ false
        → handed_by (due_of settings.deadline p.fixed (size_of found) time) (list_for address s found) p ≡ handed found
    handed_list (Write from n start stop landing) i o =
        let there : n ≤ length (drop from s) = rw (length-drop from s) (omega (arith, i.0)) in
        rw (waits, fails, length-take-le n (drop from s) there)
    handed_list (Read n start stop continues landing) i o = rw (waits, fails)
    handed_list Over i o = absurd (false≢true (sym o))
    handed_list Beyond i o = absurd (false≢true (sym o))

-- completion, refusal by refusal
module _ (s : List ℕ) (total : ℕ) (p : Progress) (snapshot : Snapshot) (got room : ℕ) where
  abbrev told : Found → Completed
  told found = turn_completed (turn_of s found) total p snapshot got room

  pub told_misplaced :
      (found : Found) → misplaced found p.outstanding ≡ true → told found ≡ keeping (Err Shape) p
  told_misplaced (Write from n start stop landing) h = absurd (false≢true h)
  told_misplaced (Read n start stop continues landing) h = absurd (false≢true h)
  told_misplaced Over h = rw h
  told_misplaced Beyond h = refl

  pub told_out_of_turn :
      (found : Found)
      → misplaced found p.outstanding ≡ false
      → p.outstanding ≡ false
      → told found ≡ keeping (Err OutOfTurn) p
  told_out_of_turn (Write from n start stop landing) h o = rw o
  told_out_of_turn (Read n start stop continues landing) h o = rw o
  told_out_of_turn Over h o = rw o
  told_out_of_turn Beyond h o = absurd (false≢true (sym h))

  module _ (o : p.outstanding ≡ true) where
    pub told_no_room :
        (found : Found)
        → misplaced found p.outstanding ≡ false
        → room < total
        → told found ≡ keeping (Err Room) p
    told_no_room (Write from n start stop landing) h r = rw (o, lt-ltb room total r)
    told_no_room (Read n start stop continues landing) h r = rw (o, lt-ltb room total r)
    told_no_room Over h r = absurd (false≢true (sym h ∙ o))
    told_no_room Beyond h r = absurd (false≢true (sym h))

    pub told_settled :
        (found : Found)
        → misplaced found p.outstanding ≡ false
        → total ≤ room
        → told found ≡ told_by (classify_of snapshot p.polled p.due) (received_of (takes found) got) p
    told_settled (Write from n start stop landing) h r = rw (o, le-ltb room total r)
    told_settled (Read n start stop continues landing) h r = rw (o, le-ltb room total r)
    told_settled Over h r = absurd (false≢true (sym h ∙ o))
    told_settled Beyond h r = absurd (false≢true (sym h))

    pub laid_settled :
        (found : Found) (received buffer : List ℕ)
        → misplaced found p.outstanding ≡ false
        → laid (turn_of s found) received buffer ≡ paste buffer (lands_at found) received (takes found)
    laid_settled (Write from n start stop landing) received buffer h = refl
    laid_settled (Read n start stop continues landing) received buffer h = refl
    laid_settled Over received buffer h = absurd (false≢true (sym h ∙ o))
    laid_settled Beyond received buffer h = absurd (false≢true (sym h))

    pub told_turn : (found : Found) → misplaced found p.outstanding ≡ false → is_turn found ≡ true
    told_turn (Write from n start stop landing) h = refl
    told_turn (Read n start stop continues landing) h = refl
    told_turn Over h = absurd (false≢true (sym h ∙ o))
    told_turn Beyond h = absurd (false≢true (sym h))
