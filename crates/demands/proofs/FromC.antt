-- A transaction from C is the one by value: no call refuses the record that the call before it left in memory, and takes it for what it is.
-- So the calls for C hand out the plan.
-- Assumes nothing.
use Rattle.std.specs.Prelude.{None, Result, Ok, Err}
use Rattle.outcome.specs.declared.Outcome.{Outcome}
use Prim.Native.Nat.{ℕ, ◌*◌, ◌≤◌}
use native.Mathlib.Nat.{mul-mod_right}
use native.Mathlib.Omega.{arith}
use mathlib.Core.Path.{◌≡◌, refl, sym, ap, ◌∙◌}
use mathlib.Core.Bool.{Bool, true, false, cond, false≢true}
use mathlib.Core.List.{List, [], ◌∷◌, map}
use lib.ListN.{length}
use lib.Dec.{ltb}
use borrow.Author.Tests.{le-ltb, ltb-false, eq-eqb}
use Rattle.outcome.specs.declared.Outcome.TheVariants.{Pending, Done, Failed}
use Rattle.outcome.specs.declared.Snapshot.{Snapshot}
use Rattle.refusal.specs.declared.Refusal.{Refusal}
use Rattle.refusal.specs.Numbers.{number_of}
use Rattle.script.specs.Scripts.{script_of}
use Rattle.transaction.specs.declared.Settings.{Settings}
use Rattle.transaction.specs.declared.Progress.{Progress}
use Rattle.transaction.specs.declared.Begun.{Begun}
use Rattle.transaction.specs.declared.Beginning.{Beginning}
use Rattle.transaction.specs.declared.Beginning.TheVariants as beginning
use Rattle.transaction.specs.declared.Handing.{Handing}
use Rattle.transaction.specs.declared.Handing.TheVariants as handing
use Rattle.transaction.specs.declared.Handed.{Handed}
use Rattle.transaction.specs.declared.Completed.{Completed}
use Rattle.transaction.specs.Calls.{accepted, begin_of, next_of, complete_of, buffer_of}
use Rattle.transaction.specs.Numbers.{begin_number}
use Rattle.sitankulo.specs.Answers.{yes}
use Rattle.sitankulo.specs.Records.{record_in, is_record}
use Rattle.sitankulo.specs.Transactions.{goes_ahead, unknown, renewed, settings_of, snapshot_of, begun_for, roomless, begin_answer, handed_for, list_answer, next_answer, completed_for, landed_for, complete_answer}
use Rattle.sitankulo.proofs.LawsBegin.{roomless_stays}
use Rattle.sitankulo.proofs.LawsForeign.{by_number}
use Rattle.sitankulo.proofs.LawsHanded.{few_handed}
use Rattle.sitankulo.proofs.RecordReturns.{Fits, record_returns}
use Rattle.sitankulo.proofs.RecordFits.{begin_fits, next_fits, complete_fits}
use Rattle.sitankulo.proofs.RecordStands.{Stands, begin_stands, next_stands, complete_stands}
use Rattle.demands.specs.Transactions.{Course, listed, given, afterwards, is_accepted, our_calls, course}
use Rattle.demands.specs.FromC.{Handful, round_of, Whole, FromC, with, course_from_c, HandsOutPlanFromC}
use Rattle.demands.proofs.Course.{calls_plan}

-- where none is left at the end of the one by value, the other has the same lists and the same buffer, and ends with SITANKULO_NONE
abbrev Agrees : Course → FromC → Type 0
Agrees c d = c.ends ≡ (Ok handing.NoneLeft) → d ≡ record { lists = c.lists; last = 254; buffer = c.buffer }

abbrev is_none : Result Handing Refusal → Bool
is_none (Ok handing.Listed) = false
is_none (Ok handing.NoneLeft) = true
is_none (Err r) = false

-- a record in memory that is p
record Lies (state : List ℕ) (p : Progress) : Type 0 where
  taken : is_record state ≡ true
  read : record_in state ≡ p
  fits : Fits p
  stands : Stands p

lies : (state : List ℕ) (p : Progress) → Fits p → Stands p → Lies (renewed state p) p
lies state p fits stands =
    let returns = record_returns state p fits stands in
    record { taken = returns.0; read = returns.1; fits = fits; stands = stands }

-- what begin's answer says
stays : (r : Refusal) → goes_ahead (number_of r) ≡ false
stays = by_number (λ n. goes_ahead n ≡ false) refl refl refl refl refl refl refl refl refl refl

accepts : (a : Result Beginning Refusal) → goes_ahead (begin_number a) ≡ true → is_accepted a ≡ true
accepts (Ok beginning.Ready) e = refl
accepts (Ok beginning.ClearFirst) e = refl
accepts (Err r) e = absurd (false≢true (sym (stays r) ∙ e))

begin_says : (kind room : ℕ) (b : Begun) → goes_ahead (begin_answer kind room b) ≡ true → (kind ≤ 2) × (is_accepted b.answer ≡ true)
unfolding begin_answer
begin_says kind room b e = go (unknown kind) refl (ltb room 25) e where
  go :
      (t : Bool)
      → unknown kind ≡ t
      → (u : Bool)
      → goes_ahead (cond t 5 (cond u (roomless (begin_number b.answer)) (begin_number b.answer))) ≡ true
      → (kind ≤ 2) × (is_accepted b.answer ≡ true)
  go true q u a = absurd (false≢true a)
  go false q true a = absurd (false≢true (sym (roomless_stays (begin_number b.answer)) ∙ a))
  go false q false a = (ltb-false 2 kind q, accepts b.answer a)

module _ (kind duration address : ℕ) (script : List ℕ) (known : kind ≤ 2) where
  abbrev settings : Settings
  settings = settings_of kind duration

  -- one list, from a record in memory
  module _
      (state : List ℕ) (p : Progress) (buffer : List ℕ) (r : Handful) (rs : List Handful)
      (l : Lies state p) (sized : length r.commands ≡ 32)
    where
      abbrev h : Handed
      h = next_of p settings address script r.asked

      abbrev waits : List ℕ
      waits = renewed state h.progress

      waiting : Lies waits h.progress
      waiting =
          lies state h.progress (next_fits p l.fits settings address script r.asked) (next_stands p l.stands settings address script r.asked)

      abbrev s : Snapshot
      s = snapshot_of r.bits r.commands r.time

      abbrev c : Completed
      c = complete_of h.progress address script s r.received buffer

      abbrev b : List ℕ
      b = buffer_of h.progress address script s r.received buffer

      going_on : Lies (renewed waits c.progress) c.progress
      going_on =
          lies waits c.progress (complete_fits h.progress waiting.fits address script s r.received buffer)
          (complete_stands h.progress waiting.stands address script s r.received buffer)

      -- each call takes the record for what it is
      handed_is : handed_for state kind duration address script r.asked ≡ h
      unfolding handed_for
      handed_is = rw l.read

      completed_is : completed_for waits address script r.bits r.commands r.time r.received buffer ≡ c
      unfolding completed_for
      completed_is = rw waiting.read

      landed_is : landed_for waits address script r.bits r.commands r.time r.received buffer ≡ b
      unfolding landed_for
      landed_is = rw waiting.read

      -- and answers by what it hands out
      listed_told : h.answer ≡ (Ok handing.Listed) → next_answer kind state (script_of address script) h 32 32 ≡ 256 * h.list.count
      unfolding next_answer list_answer
      listed_told q =
          rw (le-ltb 2 kind known, l.taken, q, le-ltb 32 h.list.count (few_handed p settings address r.asked script h refl).0)

      none_told : h.answer ≡ (Ok handing.NoneLeft) → next_answer kind state (script_of address script) h 32 32 ≡ 254
      unfolding next_answer list_answer
      none_told q = rw (le-ltb 2 kind known, l.taken, q)

      done_told : c.answer ≡ Ok Done → complete_answer waits r.commands (script_of address script) c ≡ 0
      unfolding complete_answer
      done_told q = rw (eq-eqb (length r.commands) 32 sized, waiting.taken, q)

      abbrev rest : Course
      rest = course our_calls settings address script c.progress b (map round_of rs)

      module _ (onward : Agrees rest (course_from_c kind duration address script (renewed waits c.progress) b rs)) where
        by_completion :
            h.answer ≡ Ok handing.Listed
            → (x : Result Outcome Refusal)
            → c.answer ≡ x
            → Agrees (listed h.list (afterwards x h.answer b rest)) (course_from_c kind duration address script state buffer (r ∷ rs))
        unfolding course_from_c
        by_completion q (Ok Done) e none =
            rw (handed_is, listed_told q, mul-mod_right 256 h.list.count, completed_is, landed_is, done_told e) (ap (with h.list) (onward none))
        by_completion q (Ok Pending) e none = absurd (false≢true (ap is_none (sym q ∙ none)))
        by_completion q (Ok (Failed error)) e none = absurd (false≢true (ap is_none (sym q ∙ none)))
        by_completion q (Err x) e none = absurd (false≢true (ap is_none (sym q ∙ none)))

        by_handing :
            (a : Result Handing Refusal)
            → h.answer ≡ a
            → Agrees (given a h.list buffer (afterwards c.answer h.answer b rest))
            (course_from_c kind duration address script state buffer (r ∷ rs))
        unfolding course_from_c
        by_handing (Ok handing.Listed) q none = by_completion q c.answer refl none
        by_handing (Ok handing.NoneLeft) q none = rw (handed_is, none_told q)
        by_handing (Err x) q none = absurd (false≢true (ap is_none none))

  -- the whole transaction
  memory_course :
      (state : List ℕ) (p : Progress) (buffer : List ℕ) (rs : List Handful)
      → Lies state p
      → Whole rs
      → Agrees (course our_calls settings address script p buffer (map round_of rs)) (course_from_c kind duration address script state buffer rs)
  unfolding course_from_c course handed_for next_answer
  memory_course state p buffer [] l whole none = rw (l.read, le-ltb 2 kind known, l.taken, none)
  memory_course state p buffer (r ∷ rs) l whole none =
      by_handing state p buffer r rs l whole.0
      (memory_course (renewed (waits state p buffer r rs l whole.0) (c state p buffer r rs l whole.0).progress) _ _ rs
      (going_on state p buffer r rs l whole.0) whole.1)
      (h state p buffer r rs l whole.0).answer refl none

pub plan_from_c : (kind duration address : ℕ) (script : List ℕ) → HandsOutPlanFromC kind duration address script
unfolding begun_for
plan_from_c kind duration address script state buffer busy time os rs e ahead whole well =
    let before = accepted None in
    let settings = settings_of kind duration in
    let begun = begin_of before settings address script (length buffer) (yes busy) time in
    let said = begin_says kind (length state) begun ahead in
    let plan = calls_plan before settings address script buffer (yes busy) time os (map round_of rs) e said.1 well in
    let starts =
    lies state begun.progress
    (begin_fits before (omega arith, omega arith, omega arith) settings address script (length buffer) (yes busy) time)
    (begin_stands before refl settings address script (length buffer) (yes busy) time) in
    memory_course kind duration address script said.0 (renewed state begun.progress) begun.progress buffer rs starts whole (ap (λ (c : Course). c.ends) plan)
    ∙ ap (λ (c : Course). record { lists = c.lists; last = 254; buffer = c.buffer }) plan
