-- Laws of completion from C: what it comes to with a record that is ours.
-- Assumes nothing.
use Rattle.std.specs.Prelude.{Result, Ok, Err}
use Rattle.refusal.specs.declared.Refusal.{Refusal}
use Rattle.outcome.specs.declared.Outcome.{Outcome}
use Prim.Native.Nat.{ℕ, ◌<◌}
use native.Mathlib.Nat.{add-mul-mod_self_left, mod-eq_of_lt}
use native.Mathlib.Omega.{arith}
use mathlib.Core.Path.{◌≡◌, refl, ap, ◌∙◌}
use mathlib.Core.Bool.{Bool, true, false, cond}
use mathlib.Core.List.{List}
use lib.Dec.{eqb}
use Rattle.outcome.specs.declared.Error.TheVariants.{ExecutionIncomplete, AcknowledgeCheckFailed, ArbitrationLost, Timeout}
use Rattle.outcome.specs.declared.Outcome.TheVariants.{Pending, Done, Failed}
use Rattle.outcome.specs.declared.Answer.{Answer}
use Rattle.script.specs.Scripts.{Script}
use Rattle.transaction.specs.declared.Completed.{Completed}
use Rattle.transaction.specs.Calls.{succeeded, buffer_of}
use Rattle.transaction.specs.Numbers.{completion_answer}
use Rattle.sitankulo.specs.Records.{is_record}
use Rattle.sitankulo.specs.Transactions.{number_in, succeeds, renewed, misfit, tells, saying, completed_for, landed_for, complete_answer, CompleteLeft}
use Rattle.sitankulo.proofs.LawsForeign.{by_number}

-- an answer's number is a byte, and it is 0 where the list has succeeded
abbrev Numbered : Bool → ℕ → Type 0
Numbered good n = (n < 256) × (eqb n 0 ≡ good)

numbered : (a : Result Outcome Refusal) → Numbered (succeeded a) (completion_answer a).number
numbered (Ok Pending) = (omega arith, refl)
numbered (Ok Done) = (omega arith, refl)
numbered (Ok (Failed ExecutionIncomplete)) = (omega arith, refl)
numbered (Ok (Failed (AcknowledgeCheckFailed r))) = (omega arith, refl)
numbered (Ok (Failed ArbitrationLost)) = (omega arith, refl)
numbered (Ok (Failed Timeout)) = (omega arith, refl)
numbered (Err r) =
    by_number (Numbered false) (omega arith, refl) (omega arith, refl) (omega arith, refl) (omega arith, refl) (omega arith, refl)
    (omega arith, refl) (omega arith, refl) (omega arith, refl) (omega arith, refl) (omega arith, refl) r

said : (a : Result Outcome Refusal) → number_in (saying (completion_answer a)) ≡ (completion_answer a).number
said a = add-mul-mod_self_left (completion_answer a).number 256 (completion_answer a).reason ∙ mod-eq_of_lt (numbered a).0

-- bytes land with success only
pub not_landed :
    (state : List ℕ) (address : ℕ) (script : List ℕ) (bits : ℕ) (commands : List ℕ) (time : ℕ) (received buffer : List ℕ)
    → succeeded (completed_for state address script bits commands time received buffer).answer ≡ false
    → landed_for state address script bits commands time received buffer ≡ buffer
unfolding completed_for landed_for buffer_of
not_landed state address script bits commands time received buffer e = rw e

module _ (state commands : List ℕ) (script : Script) (c : Completed) (landed buffer : List ℕ) where
  abbrev Completes : ℕ → List ℕ → List ℕ → Type 0
  Completes r s b = CompleteLeft commands script c landed r state s buffer b

  module _ (fit : misfit commands ≡ false) where
    module _
        (is : is_record state ≡ true) (made : Completed) (e : made ≡ c) (a : Answer) (told : a ≡ completion_answer made.answer)
        (stays : succeeded c.answer ≡ false → landed ≡ buffer)
      where
        answer_is : a ≡ completion_answer c.answer
        answer_is = told ∙ ap (λ (x : Completed). completion_answer x.answer) e

        answered : saying a ≡ complete_answer state commands script c
        unfolding complete_answer
        answered = rw (answer_is, fit, is)

        number_said : number_in (saying a) ≡ a.number
        number_said = rw answer_is (said c.answer)

        lands : landed ≡ cond (succeeds (saying a)) landed buffer
        lands = rw (number_said, answer_is, (numbered c.answer).1) (go (succeeded c.answer) refl) where
          go : (t : Bool) → succeeded c.answer ≡ t → landed ≡ cond t landed buffer
          go true q = refl
          go false q = stays q

        module _ (b : List ℕ) (e-b : b ≡ landed) where
          pub complete_silent : tells a.number ≡ false → Completes (saying a) state b
          complete_silent t = (answered, rw (number_said, t), e-b ∙ lands)

          pub complete_told_lem : tells a.number ≡ true → (s : List ℕ) → s ≡ renewed state made.progress → Completes (saying a) s b
          complete_told_lem t s w =
              (answered, rw (number_said, t) (w ∙ ap (λ (x : Completed). renewed state x.progress) e), e-b ∙ lands)
