-- Begin, then next list and completion in turn with successful snapshots, hand out exactly the plan's lists in order, then none is left;
-- the read buffer holds the received bytes in order, and its old contents beyond.
-- Assumes nothing.
use Rattle.std.specs.Prelude.{Option, Result, Ok, Err}
use Rattle.refusal.specs.declared.Refusal.{Refusal}
use Prim.Native.Nat.{ℕ, ◌+◌, ◌-◌, ◌≤◌}
use native.Mathlib.Nat.{zero-add, add-zero}
use native.Mathlib.Omega.{arith}
use mathlib.Core.Path.{◌≡◌, refl, sym, ap, ◌∙◌}
use mathlib.Core.Bool.{Bool, true, false, cond, false≢true}
use mathlib.Core.List.{List, [], ◌∷◌, ◌++◌, map, append_assoc, append-nil}
use lib.ListN.{length, take, length-append}
use lib.Seq.{length-take-le}
use lib.Dec.{ltb}
use borrow.Author.Tests.{ltb-false}
use Rattle.bus.specs.Operations.{Operation}
use Rattle.refusal.specs.declared.Refusal.TheVariants.{Room}
use Rattle.script.specs.Scripts.{asks, read_total, script_of}
use Rattle.turns.specs.Steps.{Step}
use Rattle.turns.specs.Turns.{carries, receives, turns_of, turn_at}
use Rattle.turns.proofs.LawsTurns.{all_received, received_append, turn_past}
use Rattle.transaction.specs.declared.Settings.{Settings}
use Rattle.transaction.specs.declared.Progress.{Progress}
use Rattle.transaction.specs.declared.Begun.{Begun}
use Rattle.transaction.specs.declared.Handing.TheVariants as handing
use Rattle.transaction.specs.Deadlines.{fixed_of, due_of}
use Rattle.transaction.specs.Calls.{accepted_by, begun_by, begin_of}
use Rattle.transaction.proofs.LawsTurn.{turns_received}
use Rattle.demands.specs.Transactions.{our_calls, is_accepted, HandsOutPlan, Round, Course, listed, course, Succeed, gathered}
use Rattle.script.proofs.LawsAccepted.{accepted_facts}
use Rattle.demands.proofs.LawsListed.{list_for, turns_planned}
use Rattle.demands.proofs.LawsCourse.{standing, due_in, is_told, is_success, round_over, round_next, round_complete, round_buffer, filled, length_filled, fill_at}

module _
    (settings : Settings) (address : ℕ) (script : List ℕ) (os : List Operation) (e : script_of address script ≡ asks os)
    (known : address ≤ 127) (fixed : Option ℕ) (old : List ℕ) (room : read_total os ≤ length old)
  where
    abbrev from : List Step → List Round → List ℕ → Course
    from rest rs g = record { lists = map (list_for address known) rest; ends = Ok handing.NoneLeft; buffer = filled old (g ++ gathered rest rs) }

    -- what is found after the turns that are done
    here : (passed rest : List Step) → turns_of 31 os ≡ passed ++ rest → turn_at 0 (length passed) (turns_of 31 os) ≡ turn_at (all_received passed) 0 rest
    here passed rest q =
        let none : length passed - length passed ≡ 0 = omega arith in
        ap (turn_at 0 (length passed)) q
        ∙ turn_past 0 (length passed) passed rest (omega arith)
        ∙ rw (none, zero-add)

    room_left : (passed rest : List Step) → turns_of 31 os ≡ passed ++ rest → all_received passed ≤ length old
    room_left passed rest q =
        let all = sym (turns_received os) ∙ ap all_received q ∙ received_append passed rest in
        omega (arith, all, room)

    goes :
        (passed rest : List Step) (rs : List Round) (g : List ℕ)
        → turns_of 31 os ≡ passed ++ rest
        → length g ≡ all_received passed
        → Succeed settings fixed rest rs
        → course our_calls settings address script (standing fixed (length passed)) (filled old g) rs ≡ from rest rs g
    unfolding course gathered turn_at all_received
    goes passed [] [] g q h w =
        rw (round_over settings address script os e fixed (length passed) 0 (here passed [] q), append-nil g)
    goes passed [] (r ∷ rs) g q h w = absurd w
    goes passed (s ∷ rest) [] g q h w = absurd w
    goes passed (s ∷ rest) (r ∷ rs) g q h w =
        let k = length passed in
        let t = due_of settings.deadline fixed (carries s) r.time in
        let found = here passed (s ∷ rest) q in
        let good = is_success t r.snapshot w.0 in
        let inside = room_left passed (s ∷ rest) q in
        let large : read_total os ≤ length (filled old g) = rw (length_filled old g (omega (arith, h, inside))) room in
        let next = round_next settings address script os e fixed k s (all_received passed) found (due_in t) r.time (is_told t r.snapshot w.0) in
        let complete = round_complete settings address script os e fixed k s (all_received passed) found (due_in t) r.snapshot r.received (filled old g) large good w.1 in
        let buffer = round_buffer settings address script os e fixed k s (all_received passed) found (due_in t) r.snapshot r.received (filled old g) large good w.1 in
        let laid = buffer ∙ fill_at old g r.received (all_received passed) (receives s) h w.1 in
        let bytes = take (receives s) r.received in
        let count : length (passed ++ s ∷ []) ≡ k + 1 = length-append passed (s ∷ []) in
        let further : turns_of 31 os ≡ (passed ++ s ∷ []) ++ rest = q ∙ sym (append_assoc passed (s ∷ []) rest) in
        let sum : length (g ++ bytes) ≡ all_received (passed ++ s ∷ []) =
        length-append g bytes ∙ rw (length-take-le (receives s) r.received w.1, received_append passed (s ∷ []), add-zero, h) in
        let onward : course our_calls settings address script (standing fixed (k + 1)) (filled old (g ++ bytes)) rs ≡ from rest rs (g ++ bytes) =
        rw count at (goes (passed ++ s ∷ []) rest rs (g ++ bytes) further sum w.2) in
        rw (next, complete, laid) (ap (listed (list_for address known s)) onward ∙ rw (append_assoc g bytes (gathered rest rs)))

gathered_length :
    (settings : Settings) (fixed : Option ℕ) (ts : List Step) (rs : List Round)
    → Succeed settings fixed ts rs
    → length (gathered ts rs) ≡ all_received ts
unfolding gathered all_received
gathered_length settings fixed [] rs w = refl
gathered_length settings fixed (t ∷ ts) [] w = absurd w
gathered_length settings fixed (t ∷ ts) (r ∷ rs) w =
    length-append (take (receives t) r.received) (gathered ts rs)
    ∙ rw (length-take-le (receives t) r.received w.1, gathered_length settings fixed ts rs w.2)

-- what acceptance leaves
module _ (os : List Operation) (before : Progress) (settings : Settings) (room : ℕ) (busy : Bool) (time : ℕ) where
  abbrev Accepted : Begun → Type 0
  Accepted b = (read_total os ≤ room) × (b.progress ≡ standing b.progress.fixed 0)

  accepted_by_lem : (t : Result (Option ℕ) Refusal) (b : Bool) → is_accepted (accepted_by t b before).answer ≡ true → (accepted_by t b before).progress ≡ standing (accepted_by t b before).progress.fixed 0
  accepted_by_lem (Err refusal) b h = absurd (false≢true h)
  accepted_by_lem (Ok due) b h = refl

  accepts : is_accepted (begun_by (asks os) before settings room busy time).answer ≡ true → Accepted (begun_by (asks os) before settings room busy time)
  accepts h = go (ltb room (read_total os)) refl h where
    go :
        (small : Bool)
        → ltb room (read_total os) ≡ small
        → is_accepted (cond small (record { answer = Err Room; progress = before }) (accepted_by (fixed_of settings.deadline time) busy before)).answer ≡ true
        → Accepted (cond small (record { answer = Err Room; progress = before }) (accepted_by (fixed_of settings.deadline time) busy before))
    go true e q = absurd (false≢true q)
    go false e q = (ltb-false room (read_total os) e, accepted_by_lem (fixed_of settings.deadline time) busy q)

pub calls_plan : HandsOutPlan our_calls
unfolding begin_of all_received
calls_plan before settings address script buffer busy time os rs e h w =
    let known = (accepted_facts address script os e).0 in
    let b = begun_by (asks os) before settings (length buffer) busy time in
    let accepted = accepts os before settings (length buffer) busy time (rw e at h) in
    let well : Succeed settings b.progress.fixed (turns_of 31 os) rs = rw e at w in
    let run = goes settings address script os e known b.progress.fixed buffer accepted.0 [] (turns_of 31 os) rs [] refl refl well in
    rw e
    (ap (λ (p : Progress). course our_calls settings address script p buffer rs) accepted.1
    ∙ run
    ∙ rw (turns_planned address known os, gathered_length settings b.progress.fixed (turns_of 31 os) rs well, turns_received os))
