-- The number of each answer, after 01, "Numbers of refusals": 8 to 11. What is no refusal: 0 is success, 255 is pending.
use Rattle.std.specs.Prelude.{ℕ}
use Rattle.outcome.specs.declared.Reason.{Reason}
use Rattle.outcome.specs.declared.Reason.TheVariants.{Address, Data, Unknown}
use Rattle.outcome.specs.declared.Error.{Error}
use Rattle.outcome.specs.declared.Error.TheVariants.{ExecutionIncomplete, AcknowledgeCheckFailed, ArbitrationLost, Timeout}
use Rattle.outcome.specs.declared.Outcome.{Outcome}
use Rattle.outcome.specs.declared.Outcome.TheVariants.{Pending, Done, Failed}
use Rattle.outcome.specs.declared.Answer.{Answer}

abbrev pub answering : ℕ → ℕ → Answer
answering n r = record { number = n; reason = r }

-- "9 AcknowledgeCheckFailed, with a reason: Address, Data or Unknown", in that order from 1; 0 where no reason is due
abbrev pub reason_of : Reason → ℕ
reason_of Address = 1
reason_of Data = 2
reason_of Unknown = 3

abbrev pub error_answer : Error → Answer
error_answer ExecutionIncomplete = answering 8 0
error_answer (AcknowledgeCheckFailed r) = answering 9 (reason_of r)
error_answer ArbitrationLost = answering 10 0
error_answer Timeout = answering 11 0

abbrev pub answer_of : Outcome → Answer
answer_of Done = answering 0 0
answer_of Pending = answering 255 0
answer_of (Failed e) = error_answer e
