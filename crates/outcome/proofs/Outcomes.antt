-- What is promised of outcomes, whatever else a snapshot holds: which of several faults is reported, when a wait ends, and that the
-- numbers tell the answers apart.
-- Assumes nothing.
use Rattle.std.specs.Prelude.{Option, Some}
use Prim.Native.Nat.{ℕ, ◌≤◌, ◌<◌}
use mathlib.Core.Path.{◌≡◌, refl, sym, ap, ◌∙◌}
use mathlib.Core.Bool.{true, false, cond}
use lib.Dec.{eqb}
use borrow.Author.Tests.{le-ltb, lt-ltb}
use Rattle.outcome.specs.Answers.{answer_of}
use Rattle.outcome.specs.Outcomes.{unanswered_of, timed_out_of, errors_of, finished_of, poll_of, commands_of, classify_of}
use Rattle.outcome.specs.declared.Reason.TheVariants.{Address, Data, Unknown}
use Rattle.outcome.specs.declared.Error.TheVariants.{ExecutionIncomplete, AcknowledgeCheckFailed, ArbitrationLost, Timeout}
use Rattle.outcome.specs.declared.Outcome.{Outcome}
use Rattle.outcome.specs.declared.Outcome.TheVariants.{Pending, Done, Failed}
use Rattle.outcome.specs.declared.Snapshot.{Snapshot}
use Rattle.outcome.specs.declared.Answer.{Answer}

module _ (s : Snapshot) where
  -- two faults or more in one poll: the first of nack, arbitration lost, unanswered, timed out is reported, the others are not
  pub outcome_order :
      (s.nack ≡ true → errors_of s ≡ Failed (AcknowledgeCheckFailed Unknown))
      × (s.nack ≡ false → s.arbitration_lost ≡ true → errors_of s ≡ Failed ArbitrationLost)
      × (s.nack ≡ false → s.arbitration_lost ≡ false → unanswered_of s ≡ true → errors_of s ≡ Failed (AcknowledgeCheckFailed Data))
      × (s.nack ≡ false → s.arbitration_lost ≡ false → unanswered_of s ≡ false → timed_out_of s ≡ true → errors_of s ≡ Failed Timeout)
      × (s.nack ≡ false → s.arbitration_lost ≡ false → unanswered_of s ≡ false → timed_out_of s ≡ false → errors_of s ≡ Done)
  unfolding errors_of
  outcome_order = (
    (λ n. simp n),
    (λ n a. simp (n, a)),
    (λ n a u. simp (n, a, u)),
    (λ n a u t. simp (n, a, u, t)),
    (λ n a u t. simp (n, a, u, t)),
  )

  -- done together with a timeout: the poll succeeds, and the command check on the same snapshot gives 11
  pub done_and_timed_out_lem :
      (due : Option ℕ)
      → finished_of s ≡ true
      → errors_of s ≡ Failed Timeout
      → (poll_of s due ≡ Done) × (commands_of s due ≡ Failed Timeout) × ((classify_of s false due).outcome ≡ Failed Timeout)
  unfolding poll_of commands_of classify_of
  done_and_timed_out_lem due f e = (simp (f, e), simp e, simp (f, e))

  -- a wait without an error ends strictly past its deadline, and at the deadline it does not
  pub deadline_strict :
      (time : ℕ)
      → finished_of s ≡ false
      → errors_of s ≡ Done
      → (s.now ≤ time → poll_of s (Some time) ≡ Pending) × (time < s.now → poll_of s (Some time) ≡ Failed Timeout)
  unfolding poll_of
  deadline_strict time f e = ((λ h. simp (f, e, le-ltb time s.now h)), (λ h. simp (f, e, lt-ltb time s.now h)))

-- an outcome read back from its numbers
outcome_of : Answer → Outcome
outcome_of a =
    cond (eqb a.number 0) Done
    (cond (eqb a.number 8) (Failed ExecutionIncomplete)
    (cond (eqb a.number 9)
    (Failed (AcknowledgeCheckFailed (cond (eqb a.reason 1) Address (cond (eqb a.reason 2) Data Unknown))))
    (cond (eqb a.number 10) (Failed ArbitrationLost) (cond (eqb a.number 11) (Failed Timeout) Pending))))

back : (o : Outcome) → outcome_of (answer_of o) ≡ o
unfolding outcome_of
back Pending = refl
back Done = refl
back (Failed ExecutionIncomplete) = refl
back (Failed (AcknowledgeCheckFailed Address)) = refl
back (Failed (AcknowledgeCheckFailed Data)) = refl
back (Failed (AcknowledgeCheckFailed Unknown)) = refl
back (Failed ArbitrationLost) = refl
back (Failed Timeout) = refl

-- two outcomes with the same numbers are the same
pub numbers_tell_apart : (o p : Outcome) → answer_of o ≡ answer_of p → o ≡ p
numbers_tell_apart o p e = sym (back o) ∙ ap outcome_of e ∙ back p
