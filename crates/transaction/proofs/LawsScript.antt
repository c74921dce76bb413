-- Laws of the calls that take a script: what they do once it is accepted, and where it is refused.
-- Assumes nothing.
use Rattle.std.specs.Prelude.{Ok, Err}
use Prim.Native.Nat.{ℕ, ◌≤◌, ◌<◌}
use native.Mathlib.Omega.{arith}
use mathlib.Core.Path.{◌≡◌, refl}
use mathlib.Core.Bool.{Bool, cond}
use mathlib.Core.List.{List}
use lib.ListN.{length, drop}
use borrow.Author.Tests.{lt-ltb, le-ltb}
use Rattle.bus.specs.Operations.{Operation}
use Rattle.refusal.specs.declared.Refusal.{Refusal}
use Rattle.refusal.specs.declared.Refusal.TheVariants.{Room}
use Rattle.outcome.specs.declared.Snapshot.{Snapshot}
use Rattle.script.specs.Records.{records_of}
use Rattle.script.specs.Scripts.{asks, refused, read_total, script_of, told_of}
use Rattle.script.proofs.LawsAccepted.{operations_of, refused_by, accepted_asks, accepted_total, accepted_facts}
use Rattle.turns.specs.Turns.{turns_of, turn_at}
use Rattle.transaction.specs.declared.Settings.{Settings}
use Rattle.transaction.specs.declared.Progress.{Progress}
use Rattle.transaction.specs.declared.Completed.{Completed}
use Rattle.transaction.specs.Deadlines.{fixed_of}
use Rattle.transaction.specs.Walk.{or_none, Walkable, turn_in}
use Rattle.transaction.specs.Calls.{accepted_by, begin_of, without_list, turn_handed, next_of, keeping, turn_completed, complete_of, laid, succeeded, buffer_of}

module _ (address : ℕ) (s : List ℕ) where
  -- a script that is refused
  module _ (r : Refusal) (e : Err r ≡ told_of (script_of address s)) where
    is_refused : script_of address s ≡ refused r
    is_refused = refused_by (script_of address s) r e

    pub begin_refused :
        (before : Progress) (settings : Settings) (room : ℕ) (busy : Bool) (time : ℕ)
        → record { answer = Err r; progress = before } ≡ begin_of before settings address s room busy time
    unfolding begin_of
    begin_refused before settings room busy time = rw is_refused

    pub next_refused :
        (p : Progress) (settings : Settings) (time : ℕ) → without_list (Err r) p ≡ next_of p settings address s time
    unfolding next_of
    next_refused p settings time = rw is_refused

    pub complete_refused :
        (p : Progress) (snapshot : Snapshot) (received buffer : List ℕ) (c : Completed)
        → c ≡ keeping (Err r) p
        → (c ≡ complete_of p address s snapshot received buffer) × (buffer ≡ buffer_of p address s snapshot received buffer)
    unfolding complete_of buffer_of
    complete_refused p snapshot received buffer c q = rw (q, is_refused) (refl, refl)

  -- and one that is accepted
  module _ (total : ℕ) (e : Ok total ≡ told_of (script_of address s)) where
    os : List Operation
    os = operations_of (script_of address s)

    asked : script_of address s ≡ asks os
    unfolding os
    asked = accepted_asks (script_of address s) total e

    sums : total ≡ read_total os
    unfolding os
    sums = accepted_total (script_of address s) total e

    whole : or_none (records_of (drop 3 s)) ≡ os
    whole = rw (accepted_facts address s os asked).3

    pub walkable : Walkable s
    walkable =
        let facts = accepted_facts address s os asked in
        (facts.1, facts.2, rw facts.3)

    pub total_read : total ≡ read_total (or_none (records_of (drop 3 s)))
    total_read = rw whole sums

    turn_is : (place : ℕ) → turn_in s place ≡ turn_at 0 place (turns_of 31 os)
    unfolding turns_of
    turn_is place = rw whole

    module _ (before : Progress) (settings : Settings) (room : ℕ) (busy : Bool) (time : ℕ) where
      pub begin_room :
          room < total → record { answer = Err Room; progress = before } ≡ begin_of before settings address s room busy time
      unfolding begin_of
      begin_room h = rw (asked, lt-ltb room (read_total os) (omega (arith, sums)))

      pub begin_accepted :
          total ≤ room
          → accepted_by (fixed_of settings.deadline time) busy before ≡ begin_of before settings address s room busy time
      unfolding begin_of
      begin_accepted h = rw (asked, le-ltb room (read_total os) (omega (arith, sums)))

    pub next_accepted :
        (p : Progress) (settings : Settings) (time : ℕ)
        → turn_handed (turn_in s p.place) p settings address time ≡ next_of p settings address s time
    unfolding next_of
    next_accepted p settings time = rw (asked, turn_is p.place)

    pub complete_accepted :
        (p : Progress) (snapshot : Snapshot) (received buffer after : List ℕ) (c : Completed)
        → (c ≡ turn_completed (turn_in s p.place) total p snapshot (length received) (length buffer))
        × (after ≡ cond (succeeded c.answer) (laid (turn_in s p.place) received buffer) buffer)
        → (c ≡ complete_of p address s snapshot received buffer) × (after ≡ buffer_of p address s snapshot received buffer)
    unfolding complete_of buffer_of
    complete_accepted p snapshot received buffer after c h =
        (rw (asked, ← turn_is p.place, ← sums) h.0, rw (asked, ← turn_is p.place, ← sums, ← h.0) h.1)
