-- What is asked of the four calls of a transaction, and calls that are wrong.
use Rattle.outcome.specs.declared.Outcome.{Outcome}
use Rattle.std.specs.Prelude.{ℕ, ◌≤◌, ◌≡◌, Bool, true, false, List, [], ◌∷◌, ◌++◌, length, take, drop, replicate, Option, Result, Ok, Err}
use Rattle.bus.specs.Operations.{Operation}
use Rattle.refusal.specs.declared.Refusal.{Refusal}
use Rattle.refusal.specs.declared.Refusal.TheVariants.{OutOfTurn}
use Rattle.outcome.specs.declared.Error.{Error}
use Rattle.outcome.specs.declared.Outcome.TheVariants.{Pending, Done, Failed}
use Rattle.outcome.specs.declared.Snapshot.{Snapshot}
use Rattle.outcome.specs.Outcomes.{classify_of, succeeds}
use Rattle.list.specs.declared.CommandList.{CommandList}
use Rattle.script.specs.Scripts.{asks, read_total, script_of}
use Rattle.turns.specs.Steps.{Step}
use Rattle.turns.specs.Plan.{planned}
use Rattle.turns.specs.Turns.{carries, receives, turns_of}
use Rattle.transaction.specs.declared.Settings.{Settings}
use Rattle.transaction.specs.declared.Progress.{Progress}
use Rattle.transaction.specs.declared.Begun.{Begun}
use Rattle.transaction.specs.declared.Beginning.{Beginning}
use Rattle.transaction.specs.declared.Beginning.TheVariants as beginning
use Rattle.transaction.specs.declared.Handing.{Handing}
use Rattle.transaction.specs.declared.Handing.TheVariants as handing
use Rattle.transaction.specs.declared.Handed.{Handed}
use Rattle.transaction.specs.declared.Completed.{Completed}
use Rattle.transaction.specs.declared.Abandoned.{Abandoned}
use Rattle.transaction.specs.Deadlines.{due_of}
use Rattle.transaction.specs.Calls.{no_list, begin_of, next_of, complete_of, buffer_of, abandon_of, succeeded}

-- the calls: a record, settings, an address, a script, and what each takes besides. `buffer` is what completion leaves in the read buffer
pub record Calls : Type 0 where
  pub begin : Progress → Settings → ℕ → List ℕ → ℕ → Bool → ℕ → Begun
  pub next : Progress → Settings → ℕ → List ℕ → ℕ → Handed
  pub complete : Progress → ℕ → List ℕ → Snapshot → List ℕ → List ℕ → Completed
  pub buffer : Progress → ℕ → List ℕ → Snapshot → List ℕ → List ℕ → List ℕ
  pub abandon : Progress → Snapshot → Abandoned

abbrev pub our_calls : Calls
our_calls = record { begin = begin_of; next = next_of; complete = complete_of; buffer = buffer_of; abandon = abandon_of }

-- DEMAND 1
-- "1 to 7 and 12 to 14 leave the state unchanged"; "a refusal returns eight zero words and no FIFO bytes where a list is due"
pub record KeepsState (k : Calls) : Type 0 where
  pub by_begin :
      (p : Progress) (settings : Settings) (address : ℕ) (script : List ℕ) (room : ℕ) (busy : Bool) (time : ℕ) (r : Refusal)
      → (k.begin p settings address script room busy time).answer ≡ Err r
      → (k.begin p settings address script room busy time).progress ≡ p
  pub by_next :
      (p : Progress) (settings : Settings) (address : ℕ) (script : List ℕ) (time : ℕ) (r : Refusal)
      → (k.next p settings address script time).answer ≡ Err r
      → ((k.next p settings address script time).progress ≡ p) × ((k.next p settings address script time).list ≡ no_list)
  pub by_complete :
      (p : Progress) (address : ℕ) (script : List ℕ) (s : Snapshot) (received buffer : List ℕ) (r : Refusal)
      → (k.complete p address script s received buffer).answer ≡ Err r
      → (k.complete p address script s received buffer).progress ≡ p
  pub by_abandon :
      (p : Progress) (s : Snapshot) (r : Refusal)
      → (k.abandon p s).answer ≡ Err r
      → (k.abandon p s).progress ≡ p

-- "No refusal writes the read buffer", 8 to 11 included; and a list that is pending does not either
abbrev pub KeepsBuffer : Calls → Type 0
KeepsBuffer k =
    (p : Progress) (address : ℕ) (script : List ℕ) (s : Snapshot) (received buffer : List ℕ)
    → succeeded (k.complete p address script s received buffer).answer ≡ false
    → k.buffer p address script s received buffer ≡ buffer

-- A TRANSACTION THROUGH THE CALLS
-- what is handed in for one list: the clock when it is asked for, and the snapshot and the received bytes with which it is completed
pub record Round : Type 0 where
  pub time : ℕ
  pub snapshot : Snapshot
  pub received : List ℕ

-- what comes of it: the lists, the answer to the last call for one, and the read buffer
pub record Course : Type 0 where
  pub lists : List CommandList
  pub ends : Result Handing Refusal
  pub buffer : List ℕ

abbrev pub listed : CommandList → Course → Course
listed l c = record { lists = l ∷ c.lists; ends = c.ends; buffer = c.buffer }

abbrev pub ending : Result Handing Refusal → List ℕ → Course
ending answer buffer = record { lists = []; ends = answer; buffer = buffer }

-- a list at a time, each completed before the next is asked for; where a list does not succeed, that is the end
abbrev pub afterwards : Result Outcome Refusal → Result Handing Refusal → List ℕ → Course → Course
afterwards (Ok Done) answer buffer rest = rest
afterwards (Ok Pending) answer buffer rest = ending answer buffer
afterwards (Ok (Failed e)) answer buffer rest = ending answer buffer
afterwards (Err r) answer buffer rest = ending answer buffer

abbrev pub given : Result Handing Refusal → CommandList → List ℕ → Course → Course
given (Ok handing.Listed) l buffer rest = listed l rest
given (Ok handing.NoneLeft) l buffer rest = ending (Ok handing.NoneLeft) buffer
given (Err r) l buffer rest = ending (Err r) buffer

unfoldable pub course : Calls → Settings → ℕ → List ℕ → Progress → List ℕ → List Round → Course
course k settings address script p buffer [] = ending (k.next p settings address script 0).answer buffer
course k settings address script p buffer (r ∷ rs) =
    given (k.next p settings address script r.time).answer (k.next p settings address script r.time).list buffer
    (afterwards
    (k.complete (k.next p settings address script r.time).progress address script r.snapshot r.received buffer).answer
    (k.next p settings address script r.time).answer
    (k.buffer (k.next p settings address script r.time).progress address script r.snapshot r.received buffer)
    (course k settings address script
    (k.complete (k.next p settings address script r.time).progress address script r.snapshot r.received buffer).progress
    (k.buffer (k.next p settings address script r.time).progress address script r.snapshot r.received buffer)
    rs))

-- rounds that succeed: a time that 64 bits can tell, a snapshot of success, and all the bytes that the list reads
abbrev pub goes_well : Result (Option ℕ) Refusal → Snapshot → Bool
goes_well (Err r) s = false
goes_well (Ok due) s = succeeds (classify_of s false due).outcome

abbrev pub Succeed : Settings → Option ℕ → List Step → List Round → Type 0
Succeed settings fixed [] [] = Unit {0}
Succeed settings fixed [] (r ∷ rs) = ⊥
Succeed settings fixed (t ∷ ts) [] = ⊥
Succeed settings fixed (t ∷ ts) (r ∷ rs) =
    (goes_well (due_of settings.deadline fixed (carries t) r.time) r.snapshot ≡ true)
    × (receives t ≤ length r.received)
    × Succeed settings fixed ts rs

-- the bytes received, in order
unfoldable pub gathered : List Step → List Round → List ℕ
gathered [] rs = []
gathered (t ∷ ts) [] = []
gathered (t ∷ ts) (r ∷ rs) = take (receives t) r.received ++ gathered ts rs

abbrev pub is_accepted : Result Beginning Refusal → Bool
is_accepted (Ok beginning.Ready) = true
is_accepted (Ok beginning.ClearFirst) = true
is_accepted (Err r) = false

-- "begin, then next list and completion in turn with successful snapshots, hand out exactly the plan's lists in order, then none left;
-- the read buffer at the end holds the received bytes in order and its old contents beyond"
abbrev pub HandsOutPlan : Calls → Type 0
HandsOutPlan k =
    (before : Progress) (settings : Settings) (address : ℕ) (script : List ℕ) (buffer : List ℕ) (busy : Bool) (time : ℕ)
    (os : List Operation) (rs : List Round)
    → script_of address script ≡ asks os
    → is_accepted (k.begin before settings address script (length buffer) busy time).answer ≡ true
    → Succeed settings (k.begin before settings address script (length buffer) busy time).progress.fixed (turns_of 31 os) rs
    → course k settings address script (k.begin before settings address script (length buffer) busy time).progress buffer rs
    ≡ record {
      lists = planned 32 31 address os;
      ends = Ok handing.NoneLeft;
      buffer = gathered (turns_of 31 os) rs ++ drop (read_total os) buffer;
    }

-- AFTER A FAILURE
-- a later call, whatever it is handed
pub data Later : Type 0 where
  nexts : Settings → ℕ → List ℕ → ℕ → Later
  completes : ℕ → List ℕ → Snapshot → List ℕ → List ℕ → Later
  abandons : Snapshot → Later

-- the record after calls, and whether one of them has handed out a list
abbrev pub is_list : Result Handing Refusal → Bool
is_list (Ok handing.Listed) = true
is_list (Ok handing.NoneLeft) = false
is_list (Err r) = false

unfoldable pub none_listed : Calls → Progress → List Later → Type 0
none_listed k p [] = Unit {0}
none_listed k p (nexts settings address script time ∷ ls) =
    (is_list (k.next p settings address script time).answer ≡ false) × none_listed k (k.next p settings address script time).progress ls
none_listed k p (completes address script s received buffer ∷ ls) =
    none_listed k (k.complete p address script s received buffer).progress ls
none_listed k p (abandons s ∷ ls) = none_listed k (k.abandon p s).progress ls

-- "8 to 11 end the transaction", and so does abandoning: no later call hands out a list
pub record FailedEnds (k : Calls) : Type 0 where
  pub by_complete :
      (p : Progress) (address : ℕ) (script : List ℕ) (s : Snapshot) (received buffer : List ℕ) (e : Error) (ls : List Later)
      → (k.complete p address script s received buffer).answer ≡ Ok (Failed e)
      → none_listed k (k.complete p address script s received buffer).progress ls
  pub by_abandon :
      (p : Progress) (s : Snapshot) (ls : List Later)
      → ((k.abandon p s).answer ≡ Err OutOfTurn → ⊥)
      → none_listed k (k.abandon p s).progress ls

-- WRONG CALLS
-- completion that clears the read buffer before it looks
abbrev pub clears_first : Calls
clears_first =
    record {
      begin = begin_of;
      next = next_of;
      complete = complete_of;
      buffer = λ p address script s received buffer. buffer_of p address script s received (replicate (length buffer) 0);
      abandon = abandon_of;
    }

-- a next list that goes on after a failure
abbrev pub forgets : Progress → Progress
forgets p =
    record { place = p.place; outstanding = p.outstanding; due = p.due; polled = p.polled; failed = false; fixed = p.fixed }

abbrev pub goes_on_after_failure : Calls
goes_on_after_failure =
    record {
      begin = begin_of;
      next = λ p settings address script time. next_of (forgets p) settings address script time;
      complete = complete_of;
      buffer = buffer_of;
      abandon = abandon_of;
    }

-- bytes that always land at the front of the read buffer
abbrev pub lands_in_front : Calls
lands_in_front =
    record {
      begin = begin_of;
      next = next_of;
      complete = complete_of;
      buffer = λ p address script s received buffer. take (length buffer) (received ++ drop (length received) buffer);
      abandon = abandon_of;
    }
