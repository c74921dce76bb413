-- The number of each answer: a refusal's own, and what is no refusal.
use Rattle.refusal.specs.declared.Refusal.{Refusal}
use Rattle.outcome.specs.declared.Outcome.{Outcome}
use Rattle.std.specs.Prelude.{ℕ, Result, Ok, Err}
use Rattle.refusal.specs.Numbers.{number_of, number_or}
use Rattle.outcome.specs.declared.Answer.{Answer}
use Rattle.outcome.specs.Answers.{answering, answer_of}
use Rattle.transaction.specs.declared.Beginning.{Beginning}
use Rattle.transaction.specs.declared.Beginning.TheVariants as beginning
use Rattle.transaction.specs.declared.Handing.{Handing}
use Rattle.transaction.specs.declared.Handing.TheVariants as handing
use Rattle.transaction.specs.declared.Abandonment.{Abandonment}
use Rattle.transaction.specs.declared.Abandonment.TheVariants as abandonment

-- 0 is accepted; 253: clear the bus first
abbrev pub beginning_number : Beginning → ℕ
beginning_number beginning.Ready = 0
beginning_number beginning.ClearFirst = 253

abbrev pub begin_number : Result Beginning Refusal → ℕ
begin_number answer = number_or beginning_number answer

-- 0 is a list; 254: none is left
abbrev pub handing_number : Handing → ℕ
handing_number handing.Listed = 0
handing_number handing.NoneLeft = 254

abbrev pub next_number : Result Handing Refusal → ℕ
next_number answer = number_or handing_number answer

-- 0 is success, 255 pending, and an error has its reason beside it
abbrev pub completion_answer : Result Outcome Refusal → Answer
completion_answer (Ok outcome) = answer_of outcome
completion_answer (Err r) = answering (number_of r) 0

-- 0 is given up; 253: reset the controller and clear the bus
abbrev pub abandonment_number : Abandonment → ℕ
abandonment_number abandonment.Quiet = 0
abandonment_number abandonment.ResetAndClear = 253

abbrev pub abandon_number : Result Abandonment Refusal → ℕ
abandon_number answer = number_or abandonment_number answer
