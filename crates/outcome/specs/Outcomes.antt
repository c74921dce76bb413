-- What a snapshot of the controller means, after 01, "Outcomes". `Done` is success, and "no error" of a check.
use Rattle.std.specs.Prelude.{ℕ, Bool, true, false, cond, not, ◌&&◌, ◌||◌, List, [], ◌∷◌, ltb, eqb, Option, Some, None}
use Rattle.command.specs.Word.{opcode_of, done_of, end_opcode, stop_opcode}
use Rattle.outcome.specs.declared.Reason.TheVariants.{Data, Unknown}
use Rattle.outcome.specs.declared.Error.TheVariants.{ExecutionIncomplete, AcknowledgeCheckFailed, ArbitrationLost, Timeout}
use Rattle.outcome.specs.declared.Outcome.{Outcome}
use Rattle.outcome.specs.declared.Outcome.TheVariants.{Pending, Done, Failed}
use Rattle.outcome.specs.declared.Snapshot.{Snapshot}
use Rattle.outcome.specs.declared.Classified.{Classified}

-- "transfer complete with resp_rec clear"
abbrev pub unanswered_of : Snapshot → Bool
unanswered_of s = s.trans_complete && not s.resp_rec

-- "either state timeout or time_out"
abbrev pub timed_out_of : Snapshot → Bool
timed_out_of s = s.scl_st_to || s.scl_main_st_to || s.time_out

-- "Errors, first that holds: nack (9, Unknown); arbitration lost (10); transfer complete with resp_rec clear (9, Data);
-- either state timeout or time_out (11)."
unfoldable pub errors_of : Snapshot → Outcome
errors_of s =
    cond s.nack (Failed (AcknowledgeCheckFailed Unknown))
    (cond s.arbitration_lost (Failed ArbitrationLost)
    (cond (unanswered_of s) (Failed (AcknowledgeCheckFailed Data))
    (cond (timed_out_of s) (Failed Timeout)
    Done)))

-- "now strictly past the deadline", which may be none
abbrev pub past_of : Option ℕ → ℕ → Bool
past_of None now = false
past_of (Some time) now = ltb time now

-- "done means transfer complete or end detected"
abbrev pub finished_of : Snapshot → Bool
finished_of s = s.trans_complete || s.end_detect

-- "Done with 11 is success; done otherwise gives the error or success"
abbrev pub forgive_timeout : Outcome → Outcome
forgive_timeout Pending = Pending
forgive_timeout Done = Done
forgive_timeout (Failed ExecutionIncomplete) = Failed ExecutionIncomplete
forgive_timeout (Failed (AcknowledgeCheckFailed r)) = Failed (AcknowledgeCheckFailed r)
forgive_timeout (Failed ArbitrationLost) = Failed ArbitrationLost
forgive_timeout (Failed Timeout) = Done

-- what follows a success; anything else stands
abbrev pub and_then : Outcome → Outcome → Outcome
and_then Pending next = Pending
and_then Done next = next
and_then (Failed e) next = Failed e

-- "Poll: .. not done gives the error; no error and now strictly past the deadline gives 11; else pending."
unfoldable pub poll_of : Snapshot → Option ℕ → Outcome
poll_of s due =
    cond (finished_of s) (forgive_timeout (errors_of s))
    (and_then (errors_of s) (cond (past_of due s.now) (Failed Timeout) Pending))

-- "slots in order up to END or STOP, zeros skipped; a non-END one not done gives 8 past the deadline, else pending"
unfoldable pub slots_of : Bool → List ℕ → Outcome
slots_of past [] = Done
slots_of past (word ∷ more) =
    cond (eqb word 0) (slots_of past more)
    (cond (eqb (opcode_of word) end_opcode) Done
    (cond (done_of word) (cond (eqb (opcode_of word) stop_opcode) Done (slots_of past more))
    (cond past (Failed ExecutionIncomplete) Pending)))

-- "Then the command check: errors again, here 11 counts", then the slots
unfoldable pub commands_of : Snapshot → Option ℕ → Outcome
commands_of s due = and_then (errors_of s) (slots_of (past_of due s.now) s.commands)

abbrev pub succeeds : Outcome → Bool
succeeds Pending = false
succeeds Done = true
succeeds (Failed e) = false

-- "Once a poll has succeeded, later snapshots for the list start at this check." On the snapshot whose poll succeeds the check
-- is made too
unfoldable pub classify_of : Snapshot → Bool → Option ℕ → Classified
classify_of s polled due =
    record {
      outcome = cond polled (commands_of s due) (and_then (poll_of s due) (commands_of s due));
      polled = polled || succeeds (poll_of s due);
    }

-- "For a read of n, fewer than n received bytes handed in give 8; of more, the first n are taken"
abbrev pub received_of : ℕ → ℕ → Outcome
received_of wanted received = cond (ltb received wanted) (Failed ExecutionIncomplete) Done
