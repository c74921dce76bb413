-- The four calls of a transaction, after 01, "Numbers of refusals", "Scripts and transactions" and "Outcomes".
use Rattle.refusal.specs.declared.Refusal.{Refusal}
use Rattle.std.specs.Prelude.{ℕ, ◌+◌, Bool, true, false, cond, not, ◌&&◌, ◌||◌, List, length, ltb, Option, Some, None, Result, Ok, Err}
use Rattle.std.proofs.Math.Seq.{paste}
use Rattle.refusal.specs.declared.Refusal.TheVariants.{Shape, Room, OutOfTurn}
use Rattle.outcome.specs.declared.Error.TheVariants.{ExecutionIncomplete, AcknowledgeCheckFailed, ArbitrationLost, Timeout}
use Rattle.outcome.specs.declared.Outcome.{Outcome}
use Rattle.outcome.specs.declared.Outcome.TheVariants.{Pending, Done, Failed}
use Rattle.outcome.specs.declared.Snapshot.{Snapshot}
use Rattle.outcome.specs.declared.Classified.{Classified}
use Rattle.outcome.specs.Outcomes.{poll_of, classify_of, received_of}
use Rattle.list.specs.declared.CommandList.{CommandList}
use Rattle.list.specs.declared.Answer.TheVariants.{NoList}
use Rattle.list.specs.Lists.{unlisted}
use Rattle.script.specs.Scripts.{Script, asks, refused, read_total, script_of}
use Rattle.turns.specs.Plan.{built_of}
use Rattle.turns.specs.Turns.{Turn, turn, over, beyond, carries, receives, turns_of, turn_at}
use Rattle.transaction.specs.declared.Settings.{Settings}
use Rattle.transaction.specs.declared.Progress.{Progress}
use Rattle.transaction.specs.declared.Beginning.TheVariants as beginning
use Rattle.transaction.specs.declared.Begun.{Begun}
use Rattle.transaction.specs.declared.Handing.{Handing}
use Rattle.transaction.specs.declared.Handing.TheVariants as handing
use Rattle.transaction.specs.declared.Handed.{Handed}
use Rattle.transaction.specs.declared.Completed.{Completed}
use Rattle.transaction.specs.declared.Abandonment.TheVariants as abandonment
use Rattle.transaction.specs.declared.Abandoned.{Abandoned}
use Rattle.transaction.specs.Deadlines.{fixed_of, due_of}

-- THE RECORD
-- as acceptance leaves it
abbrev pub accepted : Option ℕ → Progress
accepted fixed = record { place = 0; outstanding = false; due = None; polled = false; failed = false; fixed = fixed }

-- a list is handed out
abbrev pub awaiting : Progress → Option ℕ → Progress
awaiting p due =
    record { place = p.place; outstanding = true; due = due; polled = false; failed = p.failed; fixed = p.fixed }

-- it is waited for; its poll has succeeded or not
abbrev pub waiting : Progress → Bool → Progress
waiting p polled =
    record { place = p.place; outstanding = p.outstanding; due = p.due; polled = polled; failed = p.failed; fixed = p.fixed }

-- the outstanding list is completed
abbrev pub completed : Progress → Progress
completed p =
    record { place = p.place + 1; outstanding = false; due = None; polled = false; failed = p.failed; fixed = p.fixed }

-- "8 to 11 end the transaction"; "Abandoning is a failure"
abbrev pub failing : Progress → Progress
failing p = record { place = p.place; outstanding = false; due = None; polled = false; failed = true; fixed = p.fixed }

-- BEGIN
-- "A bus reported busy asks for a bus clear, without reset, first."
abbrev pub accepted_by : Result (Option ℕ) Refusal → Bool → Progress → Begun
accepted_by (Err r) busy before = record { answer = Err r; progress = before }
accepted_by (Ok fixed) busy before =
    record { answer = cond busy (Ok beginning.ClearFirst) (Ok beginning.Ready); progress = accepted fixed }

-- "Script order: ..; 7. Then 13 for a fixed deadline, even if no operation is kept."
abbrev pub begun_by : Script → Progress → Settings → ℕ → Bool → ℕ → Begun
begun_by (refused r) before settings room busy time = record { answer = Err r; progress = before }
begun_by (asks os) before settings room busy time =
    cond (ltb room (read_total os)) (record { answer = Err Room; progress = before })
    (accepted_by (fixed_of settings.deadline time) busy before)

unfoldable pub begin_of : Progress → Settings → ℕ → List ℕ → ℕ → Bool → ℕ → Begun
begin_of before settings address script room busy time = begun_by (script_of address script) before settings room busy time

-- NEXT LIST
abbrev pub no_list : CommandList
no_list = (unlisted (Ok NoList)).list

abbrev pub without_list : Result Handing Refusal → Progress → Handed
without_list answer p = record { answer = answer; list = no_list; progress = p }

-- a list that is handed out, or none is left, or a refusal, and the record after it
abbrev pub handed_as : Result (Option CommandList) Refusal → Progress → Handed
handed_as (Ok (Some l)) p = record { answer = Ok handing.Listed; list = l; progress = p }
handed_as (Ok None) p = without_list (Ok handing.NoneLeft) p
handed_as (Err r) p = without_list (Err r) p

-- "13 for a per-byte deadline where there is a list"
abbrev pub handed_by : Result (Option ℕ) Refusal → CommandList → Progress → Handed
handed_by (Err r) l p = without_list (Err r) p
handed_by (Ok due) l p = record { answer = Ok handing.Listed; list = l; progress = awaiting p due }

abbrev pub out_of_turn : Progress → Bool
out_of_turn p = p.outstanding || p.failed

-- "Next list: 5 (place), 12, 13 for a per-byte deadline where there is a list ..; after the last list, none left." A record with a list
-- outstanding has a place at which there is a list
abbrev pub turn_handed : Turn → Progress → Settings → ℕ → ℕ → Handed
turn_handed beyond p settings address time = without_list (Err Shape) p
turn_handed over p settings address time =
    cond p.outstanding (without_list (Err Shape) p)
    (cond (out_of_turn p) (without_list (Err OutOfTurn) p)
    (without_list (Ok handing.NoneLeft) p))
turn_handed (turn s landing) p settings address time =
    cond (out_of_turn p) (without_list (Err OutOfTurn) p)
    (handed_by (due_of settings.deadline p.fixed (carries s) time) (built_of 32 address s).list p)

-- "Later calls take script and address again and first repeat 1, 4, 5 and 6."
abbrev pub next_by : Script → Progress → Settings → ℕ → ℕ → Handed
next_by (refused r) p settings address time = without_list (Err r) p
next_by (asks os) p settings address time = turn_handed (turn_at 0 p.place (turns_of 31 os)) p settings address time

unfoldable pub next_of : Progress → Settings → ℕ → List ℕ → ℕ → Handed
next_of p settings address script time = next_by (script_of address script) p settings address time

-- COMPLETION
abbrev pub keeping : Result Outcome Refusal → Progress → Completed
keeping answer p = record { answer = answer; progress = p }

-- "For a read of n, fewer than n received bytes handed in give 8; of more, the first n are taken"
abbrev pub landed_by : Outcome → Progress → Completed
landed_by Pending p = keeping (Ok Pending) p
landed_by Done p = keeping (Ok Done) (completed p)
landed_by (Failed e) p = keeping (Ok (Failed e)) (failing p)

-- "Once a poll has succeeded, later snapshots for the list start at this check."
abbrev pub told_as : Outcome → Bool → Outcome → Progress → Completed
told_as Pending polled arrived p = keeping (Ok Pending) (waiting p polled)
told_as (Failed e) polled arrived p = keeping (Ok (Failed e)) (failing p)
told_as Done polled arrived p = landed_by arrived p

abbrev pub told_by : Classified → Outcome → Progress → Completed
told_by told arrived p = told_as told.outcome told.polled arrived p

-- "Completion: 5, 12, 7, then outcomes."
abbrev pub turn_completed : Turn → ℕ → Progress → Snapshot → ℕ → ℕ → Completed
turn_completed beyond total p s received room = keeping (Err Shape) p
turn_completed over total p s received room =
    cond p.outstanding (keeping (Err Shape) p) (keeping (Err OutOfTurn) p)
turn_completed (turn t landing) total p s received room =
    cond (not p.outstanding) (keeping (Err OutOfTurn) p)
    (cond (ltb room total) (keeping (Err Room) p)
    (told_by (classify_of s p.polled p.due) (received_of (receives t) received) p))

abbrev pub complete_by : Script → Progress → Snapshot → ℕ → ℕ → Completed
complete_by (refused r) p s received room = keeping (Err r) p
complete_by (asks os) p s received room = turn_completed (turn_at 0 p.place (turns_of 31 os)) (read_total os) p s received room

unfoldable pub complete_of : Progress → ℕ → List ℕ → Snapshot → List ℕ → List ℕ → Completed
complete_of p address script s received buffer = complete_by (script_of address script) p s (length received) (length buffer)

-- what the read buffer holds: with success the list's bytes have landed, "completed pieces, and bytes past an answer, stay"
abbrev pub laid : Turn → List ℕ → List ℕ → List ℕ
laid (turn s at) received buffer = paste buffer at received (receives s)
laid over received buffer = buffer
laid beyond received buffer = buffer

abbrev pub laid_by : Script → ℕ → List ℕ → List ℕ → List ℕ
laid_by (refused r) place received buffer = buffer
laid_by (asks os) place received buffer = laid (turn_at 0 place (turns_of 31 os)) received buffer

abbrev pub succeeded : Result Outcome Refusal → Bool
succeeded (Ok Done) = true
succeeded (Ok Pending) = false
succeeded (Ok (Failed e)) = false
succeeded (Err r) = false

unfoldable pub buffer_of : Progress → ℕ → List ℕ → Snapshot → List ℕ → List ℕ → List ℕ
buffer_of p address script s received buffer =
    cond (succeeded (complete_of p address script s received buffer).answer)
    (laid_by (script_of address script) p.place received buffer)
    buffer

-- ABANDONING
-- "a wait whose poll has not succeeded is polled once more, and pending or 11 asks for a reset with bus clear"
abbrev pub resets : Outcome → Bool
resets Pending = true
resets Done = false
resets (Failed ExecutionIncomplete) = false
resets (Failed (AcknowledgeCheckFailed r)) = false
resets (Failed ArbitrationLost) = false
resets (Failed Timeout) = true

-- "Abandoning takes neither: 12 only."
unfoldable pub abandon_of : Progress → Snapshot → Abandoned
abandon_of p s =
    cond (not p.outstanding) (record { answer = Err OutOfTurn; progress = p })
    (record {
      answer = cond (not p.polled && resets (poll_of s p.due)) (Ok abandonment.ResetAndClear) (Ok abandonment.Quiet);
      progress = failing p;
    })
