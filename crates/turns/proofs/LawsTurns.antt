-- Laws of turns, for citing: what is found at a place among steps, and among the steps of one operation.
-- Assumes nothing.
use Prim.Native.Nat.{ℕ, zero, suc, ◌+◌, ◌-◌, ◌≤◌, ◌<◌}
use native.Mathlib.Nat.{add_assoc, add-zero, zero-add, sub-zero}
use native.Mathlib.Omega.{arith}
use mathlib.Core.Path.{◌≡◌, refl, sym, ap, ◌∙◌}
use mathlib.Core.Bool.{Bool, true, false, cond, not, ◌&&◌, ◌||◌, false≢true}
use mathlib.Core.List.{List, [], ◌∷◌, ◌++◌}
use lib.Dec.{eqb, eqb-suc-suc}
use lib.ListN.{length, take, drop, get_or, length-drop}
use lib.Seq.{drop-drop}
use borrow.Author.Tests.{ne_eqb, eqb-true}
use Rattle.chunks.specs.Pieces.{pieces, sum}
use Rattle.chunks.proofs.Pieces.{Each, Sized, pieces_bounds}
use Rattle.turns.specs.Steps.{Step, write_step, read_step, is_empty, write_steps, read_steps}
use Rattle.turns.specs.Turns.{listless, with_list, receives, Turn, turn, over, beyond, turn_at}

-- how many bytes steps receive
unfoldable pub all_received : List Step → ℕ
all_received [] = 0
all_received (s ∷ ss) = receives s + all_received ss

pub turn_here : (l p : ℕ) (a b : List Step) → p < length a → turn_at l p (a ++ b) ≡ turn_at l p a
unfolding turn_at
turn_here l p [] b h = absurd (omega arith)
turn_here l zero (s ∷ a) b h = refl
turn_here l (suc p) (s ∷ a) b h = turn_here (l + receives s) p a b (omega arith)

pub turn_past :
    (l p : ℕ) (a b : List Step)
    → length a ≤ p
    → turn_at l p (a ++ b) ≡ turn_at (l + all_received a) (p - length a) b
unfolding turn_at all_received
turn_past l p [] b h = rw (add-zero, sub-zero)
turn_past l zero (s ∷ a) b h = absurd (omega arith)
turn_past l (suc p) (s ∷ a) b h =
    let left : suc p - suc (length a) ≡ p - length a = omega arith in
    turn_past (l + receives s) p a b (omega arith) ∙ rw (add_assoc, ← left)

pub with_list_append : (a b : List Step) → with_list (a ++ b) ≡ with_list a ++ with_list b
unfolding with_list
with_list_append [] b = refl
with_list_append (s ∷ a) b = go (listless s) (with_list_append a b) where
  go :
      (t : Bool)
      → with_list (a ++ b) ≡ with_list a ++ with_list b
      → cond t (with_list (a ++ b)) (s ∷ with_list (a ++ b)) ≡ cond t (with_list a) (s ∷ with_list a) ++ with_list b
  go true e = e
  go false e = ap (λ (l : List Step). s ∷ l) e

later : (i : ℕ) → eqb (suc i) 0 ≡ false
later i = ne_eqb (suc i) 0 (λ e. absurd (omega arith))

and-false : (b : Bool) → (b && false) ≡ false
and-false true = refl
and-false false = refl

last_one : (ns : List ℕ) → is_empty ns ≡ eqb 1 (suc (length ns))
last_one [] = refl
last_one (n ∷ ns) = sym (ne_eqb 1 (suc (suc (length ns))) (λ e. absurd (omega arith)))

pub write_turn :
    (l j : ℕ) (ns bytes : List ℕ) (start stop : Bool)
    → j < length ns
    → turn_at l j (write_steps ns bytes start stop)
    ≡ turn
    (write_step (take (get_or ns j 0) (drop (sum (take j ns)) bytes)) (eqb j 0 && start) (eqb (suc j) (length ns) && stop))
    l
unfolding turn_at write_steps sum
write_turn l j [] bytes start stop h = absurd (omega arith)
write_turn l zero (n ∷ ns) bytes start stop h =
    ap (λ (last : Bool). turn (write_step (take n bytes) start (last && stop)) l) (last_one ns)
write_turn l (suc j) (n ∷ ns) bytes start stop h =
    write_turn (l + 0) j ns (drop n bytes) false stop (omega arith)
    ∙ rw (add-zero, and-false, drop-drop (sum (take j ns)) n bytes, later j, ← eqb-suc-suc (suc j) (length ns))

pub read_turn_lem :
    (l j : ℕ) (ns : List ℕ) (start stop continues : Bool)
    → j < length ns
    → turn_at l j (read_steps ns start stop continues)
    ≡ turn
    (read_step (get_or ns j 0) (eqb j 0 && start) (eqb (suc j) (length ns) && stop) (not (eqb (suc j) (length ns)) || continues))
    (l + sum (take j ns))
unfolding turn_at read_steps sum
read_turn_lem l j [] start stop continues h = absurd (omega arith)
read_turn_lem l zero (n ∷ ns) start stop continues h =
    rw add-zero
    (ap (λ (last : Bool). turn (read_step n start (last && stop) (not last || continues)) l) (last_one ns))
read_turn_lem l (suc j) (n ∷ ns) start stop continues h =
    read_turn_lem (l + n) j ns false stop continues (omega arith) ∙ rw (add_assoc, and-false, later j, ← eqb-suc-suc (suc j) (length ns))

-- every piece of some bytes has a list
abbrev pub Some : ℕ → Type 0
Some n = 1 ≤ n

pub pieces_some : (c : ℕ) (four : 4 ≤ c) (n : ℕ) → 1 ≤ n → Each Some (pieces c n)
pieces_some c four n h = go (pieces c n) (pieces_bounds c four n h) where
  go : (ns : List ℕ) → Each (Sized c four n) ns → Each Some ns
  go [] e = tt
  go (p ∷ ns) e = (e.0.0, go ns e.1)

pub write_listed :
    (ns bytes : List ℕ) (start stop : Bool)
    → Each Some ns
    → length bytes ≡ sum ns
    → with_list (write_steps ns bytes start stop) ≡ write_steps ns bytes start stop
unfolding with_list write_steps sum
write_listed [] bytes start stop h e = refl
write_listed (p ∷ ns) [] start stop h e = absurd (omega (arith, h.0))
write_listed (zero ∷ ns) (b ∷ bytes) start stop h e = absurd (omega (arith, h.0))
write_listed (suc p ∷ ns) (b ∷ bytes) start stop h e =
    ap (λ (l : List Step). write_step (b ∷ take p bytes) start (is_empty ns && stop) ∷ l)
    (write_listed ns (drop p bytes) false stop h.1 (omega (arith, length-drop p bytes)))

pub read_listed :
    (ns : List ℕ) (start stop continues : Bool)
    → Each Some ns
    → with_list (read_steps ns start stop continues) ≡ read_steps ns start stop continues
unfolding with_list read_steps
read_listed [] start stop continues h = refl
read_listed (p ∷ ns) start stop continues h =
    rw (ne_eqb p 0 (λ e. absurd (omega (arith, h.0))))
    (ap (λ (l : List Step). read_step p start (is_empty ns && stop) (not (is_empty ns) || continues) ∷ l)
    (read_listed ns false stop continues h.1))

pub write_received : (ns bytes : List ℕ) (start stop : Bool) → all_received (write_steps ns bytes start stop) ≡ 0
unfolding all_received write_steps
write_received [] bytes start stop = refl
write_received (p ∷ ns) bytes start stop = rw zero-add (write_received ns (drop p bytes) false stop)

pub read_received : (ns : List ℕ) (start stop continues : Bool) → all_received (read_steps ns start stop continues) ≡ sum ns
unfolding all_received read_steps sum
read_received [] start stop continues = refl
read_received (p ∷ ns) start stop continues = ap (λ (m : ℕ). p + m) (read_received ns false stop continues)

pub write_count : (ns bytes : List ℕ) (start stop : Bool) → length (write_steps ns bytes start stop) ≡ length ns
unfolding write_steps
write_count [] bytes start stop = refl
write_count (p ∷ ns) bytes start stop = ap suc (write_count ns (drop p bytes) false stop)

pub read_count : (ns : List ℕ) (start stop continues : Bool) → length (read_steps ns start stop continues) ≡ length ns
unfolding read_steps
read_count [] start stop continues = refl
read_count (p ∷ ns) start stop continues = ap suc (read_count ns false stop continues)

-- a step without a list receives nothing
pub with_list_received : (ss : List Step) → all_received (with_list ss) ≡ all_received ss
unfolding with_list all_received
with_list_received [] = refl
with_list_received (write_step bytes start stop ∷ ss) =
    go (is_empty bytes && (not start && not stop)) (with_list_received ss)
  where
    go :
        (t : Bool)
        → all_received (with_list ss) ≡ all_received ss
        → all_received (cond t (with_list ss) (write_step bytes start stop ∷ with_list ss)) ≡ 0 + all_received ss
    go true e = rw zero-add e
    go false e = ap (λ (m : ℕ). 0 + m) e
with_list_received (read_step n start stop continues ∷ ss) = go (eqb n 0) refl (with_list_received ss) where
  go :
      (t : Bool)
      → eqb n 0 ≡ t
      → all_received (with_list ss) ≡ all_received ss
      → all_received (cond t (with_list ss) (read_step n start stop continues ∷ with_list ss)) ≡ n + all_received ss
  go true q e = rw (eqb-true n 0 q, zero-add) e
  go false q e = ap (λ (m : ℕ). n + m) e

abbrev is_turn : Turn → Bool
is_turn (turn s at) = true
is_turn over = false
is_turn beyond = false

abbrev landing : Turn → ℕ
landing (turn s at) = at + receives s
landing over = 0
landing beyond = 0

-- what is found lands within all that is received
pub turn_received :
    (l p : ℕ) (ss : List Step) (s : Step) (at : ℕ)
    → turn_at l p ss ≡ turn s at
    → at + receives s ≤ l + all_received ss
unfolding turn_at all_received
turn_received l zero [] s at e = absurd (false≢true (ap is_turn e))
turn_received l (suc p) [] s at e = absurd (false≢true (ap is_turn e))
turn_received l zero (t ∷ ss) s at e = omega (arith, ap landing e)
turn_received l (suc p) (t ∷ ss) s at e = rw add_assoc at (turn_received (l + receives t) p ss s at e)

pub received_append : (a b : List Step) → all_received (a ++ b) ≡ all_received a + all_received b
unfolding all_received
received_append [] b = rw zero-add
received_append (s ∷ a) b = rw add_assoc (ap (λ (m : ℕ). receives s + m) (received_append a b))
