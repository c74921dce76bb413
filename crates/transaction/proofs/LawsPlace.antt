-- Laws of a walk from operation to operation: its flags, and what is found at a place.
-- Assumes nothing.
use Prim.Native.Nat.{ℕ, ◌+◌, ◌-◌, ◌≤◌, ◌<◌}
use native.Mathlib.Omega.{arith}
use mathlib.Core.Path.{◌≡◌, refl, ap, ◌∙◌}
use mathlib.Core.List.{List, ◌∷◌, ◌++◌}
use lib.ListN.{length, take, drop}
use Rattle.bus.specs.Operations.{Operation}
use Rattle.chunks.specs.Pieces.{pieces}
use Rattle.chunks.proofs.Pieces.{pieces_sum}
use Rattle.turns.specs.Steps.{Step, Before, after, starts, is_empty, read_follows, steps_from}
use Rattle.turns.specs.Turns.{with_list, turn_at}
use Rattle.turns.proofs.LawsTurns.{all_received, with_list_append, with_list_received, turn_here, turn_past, write_received, read_received}
use Rattle.std.specs.Prelude.{Option, None, Some, is_none}
use Rattle.transaction.specs.declared.walk.Kind.{Kind}
use Rattle.transaction.specs.declared.walk.Kind.TheVariants as kind
use Rattle.transaction.specs.declared.walk.Kept.{Kept}
use Rattle.transaction.specs.declared.walk.Flags.{Flags}
use Rattle.transaction.specs.Walk.{direction_of, before_of, kept_at, operation_of, operation_at, viewed, received_by, receives, is_read, reads, flags_of, steps_for}

-- one operation, and what follows
cut :
    (b : Before) (k : Kind) (n : ℕ) (bytes : List ℕ) (ks : List Operation)
    → steps_from 31 b (operation_of k n bytes ∷ ks)
    ≡ steps_for (operation_of k n bytes)
    (record { start = starts b (direction_of k); stop = is_empty ks; continues = read_follows ks })
    ++ steps_from 31 (after (direction_of k)) ks
unfolding steps_from steps_for
cut b kind.Read n bytes ks = refl
cut b kind.Write n bytes ks = refl

taken :
    (k : Kind) (n : ℕ) (bytes : List ℕ) (flags : Flags)
    → all_received (steps_for (operation_of k n bytes) flags) ≡ received_by k n
unfolding steps_for
taken kind.Read n bytes flags =
    read_received (pieces 31 n) flags.start flags.stop flags.continues ∙ pieces_sum 31 (omega arith) n
taken kind.Write n bytes flags = write_received (pieces 31 (length bytes)) bytes flags.start flags.stop

module _ (s : List ℕ) where
  last : (o : Option Kept) → is_empty (viewed s o) ≡ is_none o
  last None = refl
  last (Some k) = refl

  follows : (o : Option Kept) → read_follows (viewed s o) ≡ reads o
  follows None = refl
  follows (Some k) = go k.kind where
    go :
        (d : Kind)
        → read_follows (operation_of d k.length (take k.length (drop (k.next - k.length) s)) ∷ kept_at s k.next)
        ≡ is_read d
    go kind.Read = refl
    go kind.Write = refl

  module _ (before : Option Kind) (ahead : Kept) (following : Option Kept) (e : kept_at s ahead.next ≡ viewed s following) where
    abbrev bytes : List ℕ
    bytes = take ahead.length (drop (ahead.next - ahead.length) s)

    abbrev flags : Flags
    flags = flags_of before ahead following

    abbrev lists : List Step
    lists = with_list (steps_for (operation_at s ahead) flags)

    parted :
        with_list (steps_from 31 (before_of before) (viewed s (Some ahead)))
        ≡ lists ++ with_list (steps_from 31 (before_of (Some ahead.kind)) (viewed s following))
    parted =
        rw e
        (ap with_list (cut (before_of before) ahead.kind ahead.length bytes (viewed s following))
        ∙ rw (last following, follows following)
        (with_list_append (steps_for (operation_at s ahead) flags) (steps_from 31 (after (direction_of ahead.kind)) (viewed s following))))

    pub found_here :
        (l left : ℕ)
        → left < length lists
        → turn_at l left (with_list (steps_from 31 (before_of before) (viewed s (Some ahead)))) ≡ turn_at l left lists
    found_here l left h =
        ap (turn_at l left) parted
        ∙ turn_here l left lists (with_list (steps_from 31 (before_of (Some ahead.kind)) (viewed s following))) h

    received : all_received lists ≡ receives ahead
    received = with_list_received (steps_for (operation_at s ahead) flags) ∙ taken ahead.kind ahead.length bytes flags

    pub found_later :
        (l left : ℕ)
        → length lists ≤ left
        → turn_at l left (with_list (steps_from 31 (before_of before) (viewed s (Some ahead))))
        ≡ turn_at (l + receives ahead) (left - length lists)
        (with_list (steps_from 31 (before_of (Some ahead.kind)) (viewed s following)))
    found_later l left p =
        ap (turn_at l left) parted
        ∙ turn_past l left lists (with_list (steps_from 31 (before_of (Some ahead.kind)) (viewed s following))) p
        ∙ rw received
