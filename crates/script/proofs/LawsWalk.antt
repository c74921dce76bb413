-- Laws of the walk over a script's records: what stands in front decides what the records are, and a walk that has read so many bytes
-- goes on after it.
-- Assumes nothing.
use Rattle.std.specs.Prelude.{Result, Ok, Err}
use Rattle.refusal.specs.declared.Refusal.{Refusal}
use Prim.Native.Nat.{ℕ, zero, suc, ◌+◌, ◌-◌, ◌≤◌, ◌<◌}
use native.Mathlib.Nat.{le_of_suc-le-suc, not-suc-le-zero, add_assoc, add-zero}
use native.Mathlib.Omega.{arith}
use mathlib.Core.Path.{◌≡◌, refl, ap, sym, ◌∙◌}
use mathlib.Core.Bool.{cond}
use mathlib.Core.List.{List, [], ◌∷◌}
use mathlib.Core.Option.{Option, none, some, map}
use lib.Dec.{ltb}
use lib.ListN.{length, take, drop, length-drop, drop_of_length-le}
use lib.Seq.{drop-drop}
use Rattle.std.proofs.lemmas.Bool.Decides.{nat_tests}
use Rattle.bus.specs.Operations.{Operation, write, read}
use Rattle.refusal.specs.declared.Refusal.TheVariants.{Shape, Size}
use Rattle.script.specs.declared.Record.{Record}
use Rattle.script.specs.declared.Record.TheVariants.{Write, Read, Bad, End}
use Rattle.script.specs.declared.Step.{Step}
use Rattle.script.specs.Records.{big_endian, operations_from, records_of, record_of, record_size, record_at}
use Rattle.script.specs.Scripts.{read_total, most, body_of, told_of}

-- bytes that are due are passed, if they are there
pub due_there : (n : ℕ) (bytes : List ℕ) → n ≤ length bytes → operations_from n bytes ≡ records_of (drop n bytes)
unfolding operations_from
due_there zero bytes h = refl
due_there (suc n) [] h = absurd (not-suc-le-zero h)
due_there (suc n) (b ∷ bytes) h = due_there n bytes (le_of_suc-le-suc h)

due_missing : (n : ℕ) (bytes : List ℕ) → length bytes < n → operations_from n bytes ≡ none
unfolding operations_from
due_missing zero bytes h = absurd (not-suc-le-zero h)
due_missing (suc n) [] h = refl
due_missing (suc n) (b ∷ bytes) h = due_missing n bytes (le_of_suc-le-suc h)

-- the records, by what stands in front
abbrev in_front : Record → List ℕ → Option (List Operation)
in_front (Write n) l = map (λ (os : List Operation). write (take n (drop 3 l)) ∷ os) (records_of (drop n (drop 3 l)))
in_front (Read n) l = map (λ (os : List Operation). read n ∷ os) (records_of (drop 3 l))
in_front Bad l = none
in_front End l = some []

module _ (high low kind : ℕ) (rest : List ℕ) where
  abbrev n : ℕ
  n = big_endian high low

  headed : records_of (high ∷ low ∷ kind ∷ rest) ≡ in_front (record_of (high ∷ low ∷ kind ∷ rest)) (high ∷ low ∷ kind ∷ rest)
  unfolding operations_from record_of
  headed = grind (arith, nat_tests, due_there n rest, due_missing n rest)

records_by : (l : List ℕ) → records_of l ≡ in_front (record_of l) l
unfolding operations_from record_of
records_by [] = refl
records_by (high ∷ []) = refl
records_by (high ∷ low ∷ []) = refl
records_by (high ∷ low ∷ kind ∷ rest) = headed high low kind rest

-- what stands in front is there
pub size_there : (l : List ℕ) → record_size (record_of l) ≤ length l
unfolding record_of
size_there [] = omega arith
size_there (high ∷ []) = omega arith
size_there (high ∷ low ∷ []) = omega arith
size_there (high ∷ low ∷ kind ∷ rest) = grind (arith, nat_tests)

-- the answer of a walk that has read t bytes and finds these records ahead
abbrev pub ahead : ℕ → Option (List Operation) → Result ℕ Refusal
ahead t none = Err Shape
ahead t (some os) = cond (ltb most (t + read_total os)) (Err Size) (Ok (t + read_total os))

pub ahead_all : (body : Option (List Operation)) → ahead 0 body ≡ told_of (body_of body)
unfolding body_of
ahead_all none = refl
ahead_all (some os) = grind (arith, nat_tests)

ahead_write :
    (t : ℕ) (bytes : List ℕ) (body : Option (List Operation))
    → ahead t (map (λ (os : List Operation). write bytes ∷ os) body) ≡ ahead t body
unfolding read_total
ahead_write t bytes none = refl
ahead_write t bytes (some os) = refl

ahead_read :
    (t n : ℕ) (body : Option (List Operation))
    → ahead t (map (λ (os : List Operation). read n ∷ os) body) ≡ ahead (t + n) body
unfolding read_total
ahead_read t n none = refl
ahead_read t n (some os) = rw add_assoc

-- a step of the walk
module _ (s : List ℕ) (at : ℕ) (step : Step) (e : step ≡ record_at s at) where
  found : (r : Record) → step.found ≡ r → record_of (drop at s) ≡ r
  unfolding record_at
  found r f = sym (ap (λ (st : Step). st.found) e) ∙ f

  next : (r : Record) → step.found ≡ r → step.next ≡ at + record_size r
  unfolding record_at
  next r f = ap (λ (st : Step). st.next) e ∙ ap (λ (q : Record). at + record_size q) (found r f)

  passed : (r : Record) → step.found ≡ r → drop (at + record_size r) s ≡ drop step.next s
  passed r f = rw (next r f)

  in_front_lem : (r : Record) → step.found ≡ r → records_of (drop at s) ≡ in_front r (drop at s)
  in_front_lem r f = records_by (drop at s) ∙ ap (λ (q : Record). in_front q (drop at s)) (found r f)

  pub walk_inside : at ≤ length s → step.next ≤ length s
  unfolding record_at
  walk_inside h =
      let there = size_there (drop at s) in
      rw e (omega (arith, there, length-drop at s))

  pub records_end : step.found ≡ End → records_of (drop at s) ≡ some []
  records_end f = in_front_lem End f

  pub end_next : step.found ≡ End → step.next ≡ at
  end_next f = next End f ∙ add-zero at

  pub records_bad : step.found ≡ Bad → records_of (drop at s) ≡ none
  records_bad f = in_front_lem Bad f

  module _ (n : ℕ) where
    pub write_next : step.found ≡ Write n → step.next ≡ at + 3 + n
    write_next f = next (Write n) f ∙ sym (add_assoc at 3 n)

    pub read_next : step.found ≡ Read n → step.next ≡ at + 3
    read_next f = next (Read n) f

    -- a write's bytes end where the next record begins
    abbrev bytes : List ℕ
    bytes = take n (drop (step.next - n) s)

    pub records_write :
        step.found ≡ Write n
        → records_of (drop at s) ≡ map (λ (os : List Operation). write bytes ∷ os) (records_of (drop step.next s))
    records_write f =
        let begins : step.next - n ≡ at + 3 = omega (arith, write_next f) in
        in_front_lem (Write n) f
        ∙ rw (drop-drop 3 at s, begins)
        (ap (λ (l : List ℕ). map (λ (os : List Operation). write (take n (drop (at + 3) s)) ∷ os) (records_of l))
        (drop-drop n (at + 3) s ∙ sym (ap (λ (m : ℕ). drop m s) (write_next f))))

    pub records_read :
        step.found ≡ Read n
        → records_of (drop at s) ≡ map (λ (os : List Operation). read n ∷ os) (records_of (drop step.next s))
    records_read f =
        in_front_lem (Read n) f
        ∙ ap (λ (l : List ℕ). map (λ (os : List Operation). read n ∷ os) (records_of l))
        (drop-drop 3 at s ∙ passed (Read n) f)

-- what a step says of the answer of a walk that has read t bytes
abbrev pub stepped : ℕ → List ℕ → ℕ → Record → Result ℕ Refusal
stepped t s next End = cond (ltb most t) (Err Size) (Ok t)
stepped t s next Bad = Err Shape
stepped t s next (Write n) = ahead t (records_of (drop next s))
stepped t s next (Read n) = ahead (t + n) (records_of (drop next s))

module _ (s : List ℕ) (at : ℕ) where
  abbrev here : Step
  here = record_at s at

  -- past the script's last byte stands its end
  pub step_end : length s ≤ at → record_at s at ≡ record { found = End; next = at }
  unfolding record_at record_of
  step_end h = rw (drop_of_length-le s {i = at} h, add-zero)

  pub next_place : (record_at s at).next ≡ at + record_size (record_at s at).found
  unfolding record_at
  next_place = refl

  pub next_inside : at ≤ length s → (record_at s at).next ≤ length s
  next_inside = walk_inside s at here refl

  stepped_by : (t : ℕ) (r : Record) → here.found ≡ r → ahead t (records_of (drop at s)) ≡ stepped t s here.next r
  unfolding read_total
  stepped_by t End f = rw (records_end s at here refl f, add-zero)
  stepped_by t Bad f = rw (records_bad s at here refl f)
  stepped_by t (Write n) f =
      ap (ahead t) (records_write s at here refl n f) ∙ ahead_write t (take n (drop (here.next - n) s)) (records_of (drop here.next s))
  stepped_by t (Read n) f = ap (ahead t) (records_read s at here refl n f) ∙ ahead_read t n (records_of (drop here.next s))

  pub ahead_stepped : (t : ℕ) → ahead t (records_of (drop at s)) ≡ stepped t s (record_at s at).next (record_at s at).found
  ahead_stepped t = stepped_by t here.found refl

-- by these the walk is followed step by step
pub ruleset steps = (next_place, next_inside, ahead_stepped, ahead_all)
