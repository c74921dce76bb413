-- Laws of the kept operations of a script, from a place on.
-- Assumes nothing.
use Prim.Native.Nat.{ℕ, zero, suc, ◌-◌, ◌≤◌, ◌<◌}
use native.Mathlib.Omega.{arith}
use mathlib.Core.Path.{◌≡◌, refl, ap, ◌∙◌}
use mathlib.Core.Bool.{true, false≢true}
use mathlib.Core.List.{List, [], ◌∷◌}
use mathlib.Core.Option.{Option, none, some, map}
use lib.ListN.{length, take, drop}
use Rattle.bus.specs.Operations.{Operation, write, read, kept}
use Rattle.script.specs.declared.Step.{Step}
use Rattle.script.specs.declared.Record.TheVariants.{Write, Read, Bad, End}
use Rattle.script.specs.Records.{records_of, record_at}
use Rattle.script.proofs.LawsWalk.{records_end, records_bad, records_write, records_read, write_next, read_next, walk_inside}
use Rattle.std.specs.Prelude as std
use Rattle.transaction.specs.declared.walk.Kept.{Kept}
use Rattle.transaction.specs.declared.walk.Kind.TheVariants as kind
use Rattle.transaction.specs.Walk.{is_readable, Readable, or_none, kept_at, viewed, Behind}

-- one operation in front of others
module _ (o : Operation) where
  some_more :
      (m : Option (List Operation))
      → is_readable (map (λ (os : List Operation). o ∷ os) m) ≡ true
      → is_readable m ≡ true
  some_more none h = h
  some_more (some os) h = refl

  more :
      (m : Option (List Operation))
      → is_readable m ≡ true
      → or_none (map (λ (os : List Operation). o ∷ os) m) ≡ o ∷ or_none m
  more none h = absurd (false≢true h)
  more (some os) h = refl

-- a step of the walk that finds a record
module _ (s : List ℕ) (at : ℕ) (step : Step) (e : step ≡ record_at s at) (good : Readable (drop at s)) where
  kept_end : step.found ≡ End → kept_at s at ≡ []
  unfolding kept
  kept_end f = rw (records_end s at step e f)

  kept_bad : step.found ≡ Bad → ⊥
  kept_bad f = false≢true (rw (records_bad s at step e f) at good)

  module _ (n : ℕ) where
    readable_write : step.found ≡ Write n → Readable (drop step.next s)
    readable_write f =
        some_more (write (take n (drop (step.next - n) s))) (records_of (drop step.next s))
        (rw (records_write s at step e n f) at good)

    kept_write :
        step.found ≡ Write n → kept_at s at ≡ write (take n (drop (step.next - n) s)) ∷ kept_at s step.next
    unfolding kept
    kept_write f =
        ap (λ (m : Option (List Operation)). kept (or_none m)) (records_write s at step e n f)
        ∙ ap kept (more (write (take n (drop (step.next - n) s))) (records_of (drop step.next s)) (readable_write f))

    readable_read : step.found ≡ Read n → Readable (drop step.next s)
    readable_read f =
        some_more (read n) (records_of (drop step.next s)) (rw (records_read s at step e n f) at good)

    read_in_front : step.found ≡ Read n → kept_at s at ≡ kept (read n ∷ or_none (records_of (drop step.next s)))
    read_in_front f =
        ap (λ (m : Option (List Operation)). kept (or_none m)) (records_read s at step e n f)
        ∙ ap kept (more (read n) (records_of (drop step.next s)) (readable_read f))

    kept_read : step.found ≡ Read n → 1 ≤ n → kept_at s at ≡ read n ∷ kept_at s step.next
    unfolding kept
    kept_read f h = read_in_front f ∙ go n h where
      go : (m : ℕ) → 1 ≤ m → kept (read m ∷ or_none (records_of (drop step.next s))) ≡ read m ∷ kept_at s step.next
      go zero p = absurd (omega arith)
      go (suc m) p = refl

    kept_dropped : step.found ≡ Read n → n ≤ 0 → kept_at s at ≡ kept_at s step.next
    unfolding kept
    kept_dropped f h = read_in_front f ∙ go n h where
      go : (m : ℕ) → m ≤ 0 → kept (read m ∷ or_none (records_of (drop step.next s))) ≡ kept_at s step.next
      go zero p = refl
      go (suc m) p = absurd (omega arith)

-- where a walk from a place on stands at another: what it has passed holds nothing that is kept
abbrev pub Stands : List ℕ → ℕ → ℕ → Type 0
Stands s from at = (from ≤ at) × (at ≤ length s) × Readable (drop at s) × (kept_at s from ≡ kept_at s at)

abbrev pub Answered : List ℕ → ℕ → std.Option Kept → Type 0
Answered s from r = (kept_at s from ≡ viewed s r) × std.IfSome r (λ k. Behind from s k)

-- what the record that it finds there means
pub record Seen (s : List ℕ) (from at : ℕ) (step : Step) : Type 0 where
  pub ends : step.found ≡ End → Answered s from std.None
  pub never_bad : step.found ≡ Bad → ⊥
  pub is_write :
      (n : ℕ)
      → n ≤ 65535
      → step.found ≡ Write n
      → Answered s from (std.Some (record { kind = kind.Write; length = n; next = step.next }))
  pub is_read :
      (n : ℕ)
      → n ≤ 65535
      → step.found ≡ Read n
      → 1 ≤ n
      → Answered s from (std.Some (record { kind = kind.Read; length = n; next = step.next }))
  pub passes : (n : ℕ) → step.found ≡ Read n → n ≤ 0 → (at < step.next) × Stands s from step.next

module _ (s : List ℕ) (from at : ℕ) (st : Stands s from at) (step : Step) (e : step ≡ record_at s at) where
  at_end : step.found ≡ End → Answered s from std.None
  at_end f = (st.3 ∙ kept_end s at step e st.2 f, tt)

  at_write :
      (n : ℕ)
      → n ≤ 65535
      → step.found ≡ Write n
      → Answered s from (std.Some (record { kind = kind.Write; length = n; next = step.next }))
  at_write n small f =
      let next = write_next s at step e n f in (
        st.3 ∙ kept_write s at step e st.2 n f,
        (
          omega (arith, next, st.0),
          walk_inside s at step e st.1,
          (small, (λ t. omega (arith, next)), (λ t. absurd (cc))),
          readable_write s at step e st.2 n f,
        ),
      )

  at_read :
      (n : ℕ)
      → n ≤ 65535
      → step.found ≡ Read n
      → 1 ≤ n
      → Answered s from (std.Some (record { kind = kind.Read; length = n; next = step.next }))
  at_read n small f enough =
      let next = read_next s at step e n f in (
        st.3 ∙ kept_read s at step e st.2 n f enough,
        (
          omega (arith, next, st.0),
          walk_inside s at step e st.1,
          (small, (λ t. absurd (cc)), (λ t. enough)),
          readable_read s at step e st.2 n f,
        ),
      )

  at_empty : (n : ℕ) → step.found ≡ Read n → n ≤ 0 → (at < step.next) × Stands s from step.next
  at_empty n f empty =
      let next = read_next s at step e n f in (
        omega (arith, next),
        (
          omega (arith, next, st.0),
          walk_inside s at step e st.1,
          readable_read s at step e st.2 n f,
          st.3 ∙ kept_dropped s at step e st.2 n f empty,
        ),
      )

  pub seen : Seen s from at step
  seen = record { ends = at_end; never_bad = kept_bad s at step e st.2; is_write = at_write; is_read = at_read; passes = at_empty }
