-- Document 01, "Outcomes", sentence by sentence, by computing.
-- Assumes nothing.
use Rattle.std.specs.Prelude.{Some, None}
use Prim.Native.Nat.{ℕ}
use mathlib.Core.Path.{◌≡◌, refl}
use mathlib.Core.Bool.{true, false}
use mathlib.Core.List.{[], ◌∷◌, map}
use Rattle.outcome.specs.declared.Reason.TheVariants.{Address, Data, Unknown}
use Rattle.outcome.specs.declared.Error.TheVariants.{ExecutionIncomplete, AcknowledgeCheckFailed, ArbitrationLost, Timeout}
use Rattle.outcome.specs.declared.Outcome.{Outcome}
use Rattle.outcome.specs.declared.Outcome.TheVariants.{Pending, Done, Failed}
use Rattle.outcome.specs.Packed.{unpacked}
use Rattle.outcome.specs.Answers.{answer_of, answering}
use Rattle.outcome.specs.Outcomes.{errors_of, past_of, forgive_timeout, and_then, poll_of, slots_of, commands_of, classify_of, received_of}
use Rattle.outcome.specs.Examples.{bits_in, shown, at, waited}

-- each bit by its name, and no other
pub bits_by_name :
    (bits_in (shown 1) ≡ true ∷ false ∷ false ∷ false ∷ false ∷ false ∷ false ∷ false ∷ [])
    × (bits_in (shown 2) ≡ false ∷ true ∷ false ∷ false ∷ false ∷ false ∷ false ∷ false ∷ [])
    × (bits_in (shown 4) ≡ false ∷ false ∷ true ∷ false ∷ false ∷ false ∷ false ∷ false ∷ [])
    × (bits_in (shown 8) ≡ false ∷ false ∷ false ∷ true ∷ false ∷ false ∷ false ∷ false ∷ [])
    × (bits_in (shown 16) ≡ false ∷ false ∷ false ∷ false ∷ true ∷ false ∷ false ∷ false ∷ [])
    × (bits_in (shown 32) ≡ false ∷ false ∷ false ∷ false ∷ false ∷ true ∷ false ∷ false ∷ [])
    × (bits_in (shown 64) ≡ false ∷ false ∷ false ∷ false ∷ false ∷ false ∷ true ∷ false ∷ [])
    × (bits_in (shown 128) ≡ false ∷ false ∷ false ∷ false ∷ false ∷ false ∷ false ∷ true ∷ [])
bits_by_name = (refl, refl, refl, refl, refl, refl, refl, refl)

-- "nack (9, Unknown); arbitration lost (10); transfer complete with resp_rec clear (9, Data); either state timeout or time_out (11)"; of
-- several the first; and that the end is detected with resp_rec clear is none of them
pub errors_by_bit :
    (map (λ (bits : ℕ). errors_of (shown bits)) (1 ∷ 2 ∷ 64 ∷ 4 ∷ 8 ∷ 16 ∷ [])
    ≡ Failed (AcknowledgeCheckFailed Unknown) ∷ Failed ArbitrationLost ∷ Failed (AcknowledgeCheckFailed Data)
    ∷ Failed Timeout ∷ Failed Timeout ∷ Failed Timeout ∷ [])
    × (map (λ (bits : ℕ). errors_of (shown bits)) (3 ∷ 66 ∷ 80 ∷ 0 ∷ 96 ∷ 128 ∷ [])
    ≡ Failed (AcknowledgeCheckFailed Unknown) ∷ Failed ArbitrationLost ∷ Failed (AcknowledgeCheckFailed Data) ∷ Done ∷ Done ∷ Done ∷ [])
unfolding errors_of
errors_by_bit = (refl, refl)

-- "now strictly past the deadline"
pub strictly_past : map (past_of (Some 5)) (4 ∷ 5 ∷ 6 ∷ []) ≡ false ∷ false ∷ true ∷ []
strictly_past = refl

pub never_past : past_of None 0xFFFFFFFFFFFFFFFF ≡ false
never_past = refl

-- "done means transfer complete or end detected. Done with 11 is success; done otherwise gives the error or success": complete, the end
-- detected, either of them with time_out or past the deadline; with nack, with arbitration lost
pub polled_when_done :
    (poll_of (shown 96) None ≡ Done)
    × (poll_of (shown 128) None ≡ Done)
    × (poll_of (shown 112) None ≡ Done)
    × (poll_of (shown 144) None ≡ Done)
    × (poll_of (at 6 128) (Some 5) ≡ Done)
    × (poll_of (shown 129) None ≡ Failed (AcknowledgeCheckFailed Unknown))
    × (poll_of (shown 130) None ≡ Failed ArbitrationLost)
unfolding poll_of errors_of
polled_when_done = (refl, refl, refl, refl, refl, refl, refl)

-- "not done gives the error; no error and now strictly past the deadline gives 11; else pending"
pub polled_before :
    (poll_of (shown 16) None ≡ Failed Timeout)
    × (poll_of (at 6 2) (Some 5) ≡ Failed ArbitrationLost)
    × (poll_of (at 6 0) (Some 5) ≡ Failed Timeout)
    × (poll_of (at 5 0) (Some 5) ≡ Pending)
    × (poll_of (at 6 32) None ≡ Pending)
unfolding poll_of errors_of
polled_before = (refl, refl, refl, refl, refl)

-- 11 alone is forgiven, and what follows comes after success alone
pub forgiven_and_followed :
    (map forgive_timeout (Pending ∷ Done ∷ Failed ExecutionIncomplete ∷ Failed (AcknowledgeCheckFailed Data) ∷ Failed ArbitrationLost ∷ Failed Timeout ∷ [])
    ≡ Pending ∷ Done ∷ Failed ExecutionIncomplete ∷ Failed (AcknowledgeCheckFailed Data) ∷ Failed ArbitrationLost ∷ Done ∷ [])
    × (map (λ (o : Outcome). and_then o (Failed Timeout)) (Pending ∷ Done ∷ Failed ArbitrationLost ∷ [])
    ≡ Pending ∷ Failed Timeout ∷ Failed ArbitrationLost ∷ [])
forgiven_and_followed = (refl, refl)

-- "slots in order up to END or STOP, zeros skipped; a non-END one not done gives 8 past the deadline, else pending": none; a word that is
-- not done, behind a zero, behind one that is done, past the deadline; one that is no command; END, done or not; STOP, done and not
pub slots_in_order :
    (map (slots_of false) ([] ∷ (0x0901 ∷ []) ∷ (0 ∷ 0x0901 ∷ []) ∷ (0x80000901 ∷ 0x0901 ∷ []) ∷ (1 ∷ []) ∷ [])
    ≡ Done ∷ Pending ∷ Pending ∷ Pending ∷ Pending ∷ [])
    × (map (slots_of true) ((0x0901 ∷ []) ∷ (0x80000901 ∷ 0 ∷ []) ∷ []) ≡ Failed ExecutionIncomplete ∷ Done ∷ [])
    × (map (slots_of false) ((0x2000 ∷ 0x0901 ∷ []) ∷ (0x80002000 ∷ 0x0901 ∷ []) ∷ (0x1000 ∷ []) ∷ (0x80001000 ∷ 0x0901 ∷ []) ∷ [])
    ≡ Done ∷ Done ∷ Pending ∷ Done ∷ [])
unfolding slots_of
slots_in_order = (refl, refl, refl)

-- "Then the command check: errors again, here 11 counts", then the slots, by the deadline
pub checked_again :
    (commands_of (shown 144) None ≡ Failed Timeout)
    × (commands_of (waited 6 (0x0901 ∷ [])) (Some 5) ≡ Failed ExecutionIncomplete)
    × (commands_of (waited 5 (0x0901 ∷ [])) (Some 5) ≡ Pending)
    × (commands_of (waited 6 (0x80000901 ∷ [])) (Some 5) ≡ Done)
unfolding commands_of errors_of slots_of
checked_again = (refl, refl, refl, refl)

-- "Once a poll has succeeded, later snapshots for the list start at this check": nothing done yet; done, and a command that is not; the
-- same command later, and done at last, each with no done bit set any more; all at once
pub polled_once :
    (classify_of (at 0 0) false None ≡ record { outcome = Pending; polled = false })
    × (classify_of (unpacked 128 (0x0901 ∷ []) 0) false None ≡ record { outcome = Pending; polled = true })
    × (classify_of (unpacked 0 (0x0901 ∷ []) 0) true None ≡ record { outcome = Pending; polled = true })
    × (classify_of (unpacked 0 (0x80000901 ∷ []) 0) true None ≡ record { outcome = Done; polled = true })
    × (classify_of (unpacked 0 (0x80000901 ∷ []) 0) false None ≡ record { outcome = Pending; polled = false })
    × (classify_of (unpacked 128 (0x80000901 ∷ []) 0) false None ≡ record { outcome = Done; polled = true })
unfolding classify_of poll_of commands_of errors_of slots_of
polled_once = (refl, refl, refl, refl, refl, refl)

-- "fewer than n received bytes handed in give 8; of more, the first n are taken"
pub received_bytes_lem : map (received_of 2) (1 ∷ 2 ∷ 3 ∷ []) ≡ Failed ExecutionIncomplete ∷ Done ∷ Done ∷ []
received_bytes_lem = refl

-- 8 to 11, 9 with its reason; what is no refusal is 0 and 255
pub numbers_of_outcomes :
    map answer_of
    (Done ∷ Failed ExecutionIncomplete ∷ Failed (AcknowledgeCheckFailed Address) ∷ Failed (AcknowledgeCheckFailed Data)
    ∷ Failed (AcknowledgeCheckFailed Unknown) ∷ Failed ArbitrationLost ∷ Failed Timeout ∷ Pending ∷ [])
    ≡ answering 0 0 ∷ answering 8 0 ∷ answering 9 1 ∷ answering 9 2 ∷ answering 9 3 ∷ answering 10 0 ∷ answering 11 0 ∷ answering 255 0 ∷ []
numbers_of_outcomes = refl
