-- Laws of one operation among the turns: how many lists it has, what it receives, and the piece at a place.
-- Assumes nothing.
use Prim.Native.Nat.{ℕ, zero, suc, ◌+◌, ◌-◌, ◌≤◌, ◌<◌}
use native.Mathlib.Nat.{zero-add, suc-add, div-le_self}
use native.Mathlib.Numerals.{add-one}
use native.Mathlib.Omega.{arith}
use mir.Val.{bool_byte}
use mathlib.Core.Path.{◌≡◌, refl, sym, ap, ◌∙◌}
use mathlib.Core.Bool.{Bool, true, false, cond, not, ◌&&◌, ◌||◌}
use mathlib.Core.List.{List, [], ◌∷◌}
use lib.Dec.{eqb}
use lib.ListN.{length, take, drop, length-drop}
use lib.Seq.{take-nil, take-take, drop-drop, length-take-le}
use Rattle.bus.specs.Operations.{Operation, write, read}
use Rattle.chunks.specs.Pieces.{piece_of, pieces, count_of, start_of}
use Rattle.chunks.proofs.Laws.{pieces_last, piece_most, start_most}
use Rattle.chunks.proofs.Pieces.{pieces_sum, pieces_count, pieces_start, pieces_at}
use Rattle.turns.specs.Steps.{Step, write_step, read_step, write_steps}
use Rattle.turns.specs.Turns.{with_list, turn, turn_at}
use Rattle.turns.proofs.LawsTurns.{write_turn, read_turn_lem, pieces_some, write_listed, read_listed, write_count, read_count}
use Rattle.transaction.specs.declared.walk.Kind.{Kind}
use Rattle.transaction.specs.declared.walk.Kind.TheVariants as kind
use Rattle.transaction.specs.declared.walk.Kept.{Kept}
use Rattle.transaction.specs.declared.walk.Flags.{Flags}
use Rattle.transaction.specs.Walk.{Sound, operation_of, operation_at, piece_flags, steps_for, Sized}

four : 4 ≤ 31
four = omega arith

-- all of some bytes have lists
write_all :
    (bytes : List ℕ) (flags : Flags)
    → 1 ≤ length bytes
    → with_list (steps_for (write bytes) flags) ≡ steps_for (write bytes) flags
unfolding steps_for
write_all bytes flags h =
    write_listed (pieces 31 (length bytes)) bytes flags.start flags.stop (pieces_some 31 four (length bytes) h)
    (sym (pieces_sum 31 four (length bytes)))

read_all : (n : ℕ) (flags : Flags) → 1 ≤ n → with_list (steps_for (read n) flags) ≡ steps_for (read n) flags
unfolding steps_for
read_all n flags h =
    read_listed (pieces 31 n) flags.start flags.stop flags.continues (pieces_some 31 four n h)

-- an empty write has one list, or none in the midst of its run
write_none :
    (flags : Flags)
    → with_list (steps_for (write []) flags)
    ≡ cond (not flags.start && not flags.stop) [] (write_step [] flags.start flags.stop ∷ [])
unfolding steps_for write_steps with_list
write_none flags = rw (pieces_last 31 four 0 (omega arith))

write_number : (bytes : List ℕ) (flags : Flags) → length (steps_for (write bytes) flags) ≡ count_of 31 (length bytes)
unfolding steps_for
write_number bytes flags =
    write_count (pieces 31 (length bytes)) bytes flags.start flags.stop ∙ pieces_count 31 four (length bytes)

read_number : (n : ℕ) (flags : Flags) → length (steps_for (read n) flags) ≡ count_of 31 n
unfolding steps_for
read_number n flags =
    read_count (pieces 31 n) flags.start flags.stop flags.continues ∙ pieces_count 31 four n

pub one_most : 1 ≤ count_of 31 0
unfolding count_of
one_most = omega arith

pub stops_most : (flags : Flags) → bool_byte flags.stop ≤ count_of 31 0
stops_most flags = go flags.stop where
  go : (t : Bool) → bool_byte t ≤ count_of 31 0
  go true = one_most
  go false = omega arith

-- as many as a record's 16 bits can say, at most
pub count_most : (n : ℕ) → n ≤ 65535 → count_of 31 n ≤ 65536
unfolding count_of
count_most n h = omega (arith, div-le_self (n - 1) 31)

-- how many lists an empty operation has, which is a write
module _ (o : Operation) (flags : Flags) (z : Sized o 0) where
  empty_lists :
      (start stop : Bool)
      → flags.start ≡ start
      → flags.stop ≡ stop
      → length (with_list (steps_for o flags)) ≡ cond (not start && not stop) 0 1
  empty_lists start stop a b = go o z where
    lone : (t : Bool) → length (cond t [] (write_step [] start stop ∷ [])) ≡ cond t 0 1
    lone true = refl
    lone false = refl

    go : (p : Operation) → Sized p 0 → length (with_list (steps_for p flags)) ≡ cond (not start && not stop) 0 1
    go (write []) y = ap length (write_none flags) ∙ rw (a, b) (lone (not start && not stop))
    go (write (x ∷ bytes)) y = absurd (omega arith)
    go (read n) y = absurd (omega (arith, y.0, y.1))

  pub starting_list : flags.start ≡ true → 1 ≡ length (with_list (steps_for o flags))
  starting_list a = sym (empty_lists true flags.stop a refl)

  pub stopping_list : flags.start ≡ false → flags.stop ≡ true → 1 ≡ length (with_list (steps_for o flags))
  stopping_list a b = sym (empty_lists false true a b)

  pub no_lists : flags.start ≡ false → flags.stop ≡ false → 0 ≡ length (with_list (steps_for o flags))
  no_lists a b = sym (empty_lists false false a b)

  pub stopping_lists : flags.start ≡ false → bool_byte flags.stop ≡ length (with_list (steps_for o flags))
  stopping_lists a = go flags.stop refl where
    go : (t : Bool) → flags.stop ≡ t → bool_byte t ≡ length (with_list (steps_for o flags))
    go true b = stopping_list a b
    go false b = no_lists a b

-- and one that is not empty
pub lists_of_pieces :
    (o : Operation) (flags : Flags) (n : ℕ)
    → Sized o n
    → (n ≡ 0 → ⊥)
    → count_of 31 n ≡ length (with_list (steps_for o flags))
lists_of_pieces (write []) flags n z h = absurd (h z)
lists_of_pieces (write (x ∷ bytes)) flags n z h =
    rw (write_all (x ∷ bytes) flags (omega arith), z)
    (sym (write_number (x ∷ bytes) flags))
lists_of_pieces (read m) flags n z h = rw (read_all m flags z.1, z.0) (sym (read_number m flags))

-- the piece at a place
module _ (l : ℕ) (flags : Flags) where
  abbrev lone : Step
  lone = write_step [] flags.start flags.stop

  pub write_piece :
      (bytes : List ℕ) (j : ℕ)
      → j < length (with_list (steps_for (write bytes) flags))
      → turn_at l j (with_list (steps_for (write bytes) flags))
      ≡ turn
      (write_step
      (take (piece_of 31 (length bytes - start_of 31 (length bytes) j)) (drop (start_of 31 (length bytes) j) bytes))
      (eqb j 0 && flags.start)
      (eqb (suc j) (count_of 31 (length bytes)) && flags.stop))
      l
  unfolding steps_for turn_at piece_of start_of count_of
  write_piece [] zero h =
      rw (write_none flags)
      (go (not flags.start && not flags.stop) (rw (write_none flags) at h))
    where
      go : (t : Bool) → 0 < length (cond t [] (lone ∷ [])) → turn_at l 0 (cond t [] (lone ∷ [])) ≡ turn lone l
      go true q = absurd (omega arith)
      go false q = refl
  write_piece [] (suc j) h = absurd (go (not flags.start && not flags.stop) (rw (write_none flags) at h))
    where
      go : (t : Bool) → suc j < length (cond t [] (lone ∷ [])) → ⊥
      go true q = absurd (omega arith)
      go false q = absurd (omega arith)
  write_piece (x ∷ bytes) j h =
      let all = write_all (x ∷ bytes) flags (omega arith) in
      let inside : j < count_of 31 (length (x ∷ bytes)) = rw (all, write_number (x ∷ bytes) flags) at h in
      ap (turn_at l j) all
      ∙ write_turn l j (pieces 31 (length (x ∷ bytes))) (x ∷ bytes) flags.start flags.stop
      (omega (arith, inside, pieces_count 31 four (length (x ∷ bytes))))
      ∙ rw (
        pieces_at 31 four (length (x ∷ bytes)) j inside,
        pieces_start 31 four (length (x ∷ bytes)) j,
        pieces_count 31 four (length (x ∷ bytes)),
      )

  pub read_piece :
      (n j : ℕ)
      → 1 ≤ n
      → j < count_of 31 n
      → turn_at l j (with_list (steps_for (read n) flags))
      ≡ turn
      (read_step
      (piece_of 31 (n - start_of 31 n j))
      (eqb j 0 && flags.start)
      (eqb (suc j) (count_of 31 n) && flags.stop)
      (not (eqb (suc j) (count_of 31 n)) || flags.continues))
      (l + start_of 31 n j)
  unfolding steps_for
  read_piece n j some h =
      ap (turn_at l j) (read_all n flags some)
      ∙ read_turn_lem l j (pieces 31 n) flags.start flags.stop flags.continues (omega (arith, pieces_count 31 four n))
      ∙ rw (pieces_at 31 four n j h, pieces_start 31 four n j, pieces_count 31 four n)

-- the same, for an operation that was found in a script
drop_take : (a k : ℕ) (l : List ℕ) → drop a (take (a + k) l) ≡ take k (drop a l)
drop_take zero k l = rw zero-add
drop_take (suc a) k [] = rw suc-add (sym (take-nil k))
drop_take (suc a) k (x ∷ l) = rw suc-add (drop_take a k l)

part_of_part :
    (b n a m : ℕ) (l : List ℕ)
    → a + m ≤ n
    → take m (drop (b + a) l) ≡ take m (drop a (take n (drop b l)))
part_of_part b n a m l h =
    let whole : a + (n - a) ≡ n = omega arith in
    let inner : drop a (take n (drop b l)) ≡ take (n - a) (drop a (drop b l)) = rw whole at (drop_take a (n - a) (drop b l)) in
    rw (inner, take-take m (n - a) (drop a (drop b l)) (omega arith), drop-drop a b l)

-- an operation that was found is as long as it says
pub sized : (s : List ℕ) (k : Kept) → Sound k → k.next ≤ length s → Sized (operation_at s k) k.length
sized s k sound inside = go k.kind refl where
  go :
      (d : Kind)
      → k.kind ≡ d
      → Sized (operation_of d k.length (take k.length (drop (k.next - k.length) s))) k.length
  go kind.Read e = (refl, sound.2 e)
  go kind.Write e =
      let there : k.length ≤ length (drop (k.next - k.length) s) =
      rw (length-drop (k.next - k.length) s) (omega (arith, sound.1 e)) in
      sym (length-take-le k.length (drop (k.next - k.length) s) there)

-- what is known of the piece at a place: where it starts, its size and its flags
pub record Cut (ahead : Kept) (flags : Flags) (at landing start size : ℕ) (own : Flags) : Type 0 where
  pub starts_inside : start ≤ ahead.length
  pub ends_inside : start + size ≤ ahead.length
  pub fits : size ≤ 31
  pub is_read :
      (s : List ℕ)
      → ahead.kind ≡ kind.Read
      → at < count_of 31 ahead.length
      → turn (read_step size own.start own.stop own.continues) (landing + start)
      ≡ turn_at landing at (with_list (steps_for (operation_at s ahead) flags))
  pub is_write :
      (s : List ℕ)
      → ahead.kind ≡ kind.Write
      → ahead.next ≤ length s
      → at < length (with_list (steps_for (operation_at s ahead) flags))
      → turn (write_step (take size (drop (ahead.next - ahead.length + start) s)) own.start own.stop) landing
      ≡ turn_at landing at (with_list (steps_for (operation_at s ahead) flags))

module _
    (ahead : Kept) (flags : Flags) (at landing : ℕ) (sound : Sound ahead)
    (start size all : ℕ) (own : Flags)
    (e-start : start ≡ start_of 31 ahead.length at) (e-size : size ≡ piece_of 31 (ahead.length - start))
    (e-all : all ≡ count_of 31 ahead.length) (e-own : own ≡ piece_flags flags (eqb at 0) (eqb (at + 1) all))
  where
    abbrev n : ℕ
    n = ahead.length

    start_inside : start ≤ n
    start_inside = rw e-start (start_most 31 n at)

    piece_inside : (start + size ≤ n) × (size ≤ 31)
    piece_inside = let most = piece_most 31 (n - start) in (omega (arith, e-size, most, start_inside), omega (arith, e-size, most))

    module _ (s : List ℕ) where
      abbrev bytes : List ℕ
      bytes = take n (drop (ahead.next - n) s)

      abbrev steps : List Step
      steps = with_list (steps_for (operation_at s ahead) flags)

      read_found :
          ahead.kind ≡ kind.Read
          → at < count_of 31 n
          → turn (read_step size own.start own.stop own.continues) (landing + start) ≡ turn_at landing at steps
      read_found r h =
          rw (e-own, e-all, e-size, e-start, r, add-one at) (sym (read_piece landing flags n at (sound.2 r) h))

      write_found :
          ahead.kind ≡ kind.Write
          → ahead.next ≤ length s
          → at < length steps
          → turn (write_step (take size (drop (ahead.next - n + start) s)) own.start own.stop) landing
          ≡ turn_at landing at steps
      write_found r inside h =
          let whole : length bytes ≡ n = sym (rw r at (sized s ahead sound inside)) in
          let place : at < length (with_list (steps_for (write bytes) flags)) = rw r at h in
          rw (part_of_part (ahead.next - n) n start size s piece_inside.0, e-own, e-all, e-size, e-start, r, add-one at)
          (sym (rw whole at (write_piece landing flags bytes at place)))

    pub cut : Cut ahead flags at landing start size own
    cut =
        record {
          starts_inside = start_inside;
          ends_inside = piece_inside.0;
          fits = piece_inside.1;
          is_read = read_found;
          is_write = write_found;
        }
