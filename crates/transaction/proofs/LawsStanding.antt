-- Laws of a walk that looks for a place: where it stands, so many lists before the place, it sees all that is left to see.
-- Assumes nothing.
use Rattle.std.specs.Prelude.{Option, None, Some, IfSome}
use Prim.Native.Nat.{ℕ, zero, suc, ◌+◌, ◌-◌, ◌*◌, ◌≤◌, ◌<◌}
use native.Mathlib.Omega.{arith}
use mathlib.Core.Path.{◌≡◌, refl, sym, ◌∙◌}
use mathlib.Core.Bool.{Bool, true, false, not, false≢true}
use mathlib.Core.List.{List, []}
use lib.ListN.{length, drop}
use Rattle.bus.specs.Operations.{Operation}
use Rattle.chunks.specs.Pieces.{count_of}
use Rattle.turns.specs.Steps.{steps_from}
use Rattle.turns.specs.Turns.{over, beyond, with_list, turn_at}
use Rattle.transaction.specs.declared.walk.Kind.{Kind}
use Rattle.transaction.specs.declared.walk.Kind.TheVariants as kind
use Rattle.transaction.specs.declared.walk.Kept.{Kept}
use Rattle.transaction.specs.declared.walk.Flags.{Flags}
use Rattle.transaction.specs.declared.walk.Found.{Found}
use Rattle.transaction.specs.declared.walk.Found.TheVariants.{Write, Read, Over, Beyond}
use Rattle.transaction.specs.Walk.{before_of, Readable, kept_at, operation_at, viewed, received_by, receives, Sound, Behind, flags_of, steps_for, Sized, Inside, turn_in}
use Rattle.transaction.proofs.LawsOperation.{count_most, sized}
use Rattle.transaction.proofs.LawsPlace.{found_here, found_later}

pub off : (b : Bool) → not b ≡ true → b ≡ false
off true e = absurd (false≢true e)
off false e = refl

pub on : (b : Bool) → not b ≡ false → b ≡ true
on true e = refl
on false e = absurd (false≢true (sym e))

-- what lies before a place lies before one further on
pub inside_wider : (a b : ℕ) (r : Found) → a ≤ b → Inside a r → Inside b r
inside_wider a b (Write from n start stop landing) h i = (omega arith, i.1)
inside_wider a b (Read n start stop continues landing) h i = i
inside_wider a b Over h i = i
inside_wider a b Beyond h i = i

module _ (s : List ℕ) (place : ℕ) where
  abbrev Known : ℕ → ℕ → Kept → Type 0
  Known left landing k =
      (k.next ≤ length s)
      × Sound k
      × Readable (drop k.next s)
      × (landing + 65535 ≤ 65535 * k.next)
      × (place + 65536 ≤ left + 65536 * k.next)

  abbrev pub Standing : Option Kind → Option Kept → ℕ → ℕ → Type 0
  Standing before current left landing =
      IfSome current (λ k. Known left landing k)
      × (turn_at landing left (with_list (steps_from 31 (before_of before) (viewed s current))) ≡ turn_in s place)

  -- how far a walk has to go
  abbrev pub remains : Option Kept → ℕ
  remains None = 0
  remains (Some k) = suc (length s - k.next)

  abbrev Seen : ℕ → Option Kept → Type 0
  Seen from o = (kept_at s from ≡ viewed s o) × IfSome o (λ k. Behind from s k)

  pub standing_first : (current : Option Kept) → Seen 3 current → Standing None current place 0
  standing_first None seen = (tt, rw (← seen.0))
  standing_first (Some k) seen =
      let behind = seen.1 in (
        (behind.1, behind.2, behind.3, omega (arith, behind.0), omega (arith, behind.0)),
        rw (← seen.0),
      )

  -- what is known where a walk stands before an operation that has so many lists, and sees what follows
  pub record Onward (ahead : Kept) (following : Option Kept) (flags : Flags) (lists left landing : ℕ) : Type 0 where
    pub lists_are : lists ≡ length (with_list (steps_for (operation_at s ahead) flags))
    pub here : left < lists → turn_at landing left (with_list (steps_for (operation_at s ahead) flags)) ≡ turn_in s place
    pub bound : left < lists → place < 1073741824
    pub lands : landing + 65535 ≤ 1073741824
    pub next : lists ≤ left → Standing (Some ahead.kind) following (left - lists) (landing + receives ahead)

  module _ (before : Option Kind) (left landing : ℕ) where
    pub standing_over : Standing before None left landing → left ≡ 0 → over ≡ turn_in s place
    unfolding steps_from with_list turn_at
    standing_over st z = rw z at st.1

    pub standing_beyond : Standing before None left landing → (left ≡ 0 → ⊥) → beyond ≡ turn_in s place
    unfolding steps_from with_list turn_at
    standing_beyond st z = go left z st.1 where
      go :
          (m : ℕ)
          → (m ≡ 0 → ⊥)
          → turn_at landing m (with_list (steps_from 31 (before_of before) [])) ≡ turn_in s place
          → beyond ≡ turn_in s place
      go zero y e = absurd (y refl)
      go (suc m) y e = e

    module _
        (ahead : Kept) (st : Standing before (Some ahead) left landing) (following : Option Kept) (seen : Seen ahead.next following)
        (flags : Flags) (e-flags : flags ≡ flags_of before ahead following) (lists : ℕ)
        (counted : ((o : Operation) → Sized o ahead.length → lists ≡ length (with_list (steps_for o flags))) × (lists ≤ count_of 31 ahead.length))
      where
        known : Known left landing ahead
        known = st.0

        lists_are : lists ≡ length (with_list (steps_for (operation_at s ahead) flags))
        lists_are = counted.0 (operation_at s ahead) (sized s ahead known.1 known.0)

        counted_here : lists ≡ length (with_list (steps_for (operation_at s ahead) (flags_of before ahead following)))
        counted_here = rw e-flags at lists_are

        standing_here :
            left < lists
            → turn_at landing left (with_list (steps_for (operation_at s ahead) flags)) ≡ turn_in s place
        standing_here h =
            rw e-flags
            (sym (found_here s before ahead following seen.0 landing left (omega (arith, h, counted_here))) ∙ st.1)

        standing_bound : length s ≤ 4099 → left < lists → place < 1073741824
        standing_bound short h =
            omega (arith, known.4, known.0, counted.1, count_most ahead.length known.1.0)

        landing_bound : length s ≤ 4099 → landing + 65535 ≤ 1073741824
        landing_bound short = omega (arith, known.3, known.0)

        received_most : receives ahead ≤ 65535
        received_most = go ahead.kind where
          go : (k : Kind) → received_by k ahead.length ≤ 65535
          go kind.Read = known.1.0
          go kind.Write = omega arith

        standing_next : lists ≤ left → Standing (Some ahead.kind) following (left - lists) (landing + receives ahead)
        standing_next h = (
          go following seen.1,
          rw counted_here (sym (found_later s before ahead following seen.0 landing left (omega (arith, counted_here))) ∙ st.1),
        )
          where
            go :
                (o : Option Kept)
                → IfSome o (λ k. Behind ahead.next s k)
                → IfSome o (λ k. Known (left - lists) (landing + receives ahead) k)
            go None b = tt
            go (Some k) b = (
              b.1,
              b.2,
              b.3,
              omega (arith, known.3, received_most, b.0),
              omega (arith, known.4, counted.1, count_most ahead.length known.1.0, b.0),
            )

        pub onward : length s ≤ 4099 → Onward ahead following flags lists left landing
        onward short =
            record {
              lists_are = lists_are;
              here = standing_here;
              bound = standing_bound short;
              lands = landing_bound short;
              next = standing_next;
            }
