-- A script that is accepted has few lists, so that their number fits wherever it is kept.
-- Assumes nothing.
use Prim.Native.Nat.{ℕ, zero, suc, ◌+◌, ◌-◌, ◌≤◌, ◌<◌}
use native.Mathlib.Nat.{div-le_self}
use native.Mathlib.Omega.{arith}
use mathlib.Core.Path.{◌≡◌, ap}
use mathlib.Core.Bool.{Bool, true, false, cond, false≢true}
use mathlib.Core.List.{List, [], ◌∷◌}
use mathlib.Core.Option.{Option, none, some, map}
use lib.ListN.{length, take, drop, length-append, length-drop}
use lib.Dec.{eqb}
use Rattle.bus.specs.Events.{to_sensor, from_sensor}
use Rattle.bus.specs.Operations.{Operation, write, read, kept}
use Rattle.chunks.specs.Pieces.{pieces, count_of}
use Rattle.chunks.proofs.Pieces.{pieces_count}
use Rattle.script.specs.Records.{big_endian, operations_from}
use Rattle.script.specs.Scripts.{asks, read_total, script_of}
use Rattle.script.proofs.LawsAccepted.{accepted_facts}
use Rattle.turns.specs.Steps.{Step, Before, nothing, after, steps_from}
use Rattle.turns.specs.Turns.{Turn, turn, over, beyond, receives, listless, with_list, turns_of, turn_at}
use Rattle.turns.proofs.LawsTurns.{write_count, read_count}

-- a byte has at most one piece of its own, and an operation one more
unfoldable weight : List Operation → ℕ
weight [] = 0
weight (write bytes ∷ os) = suc (length bytes + weight os)
weight (read n ∷ os) = suc (n + weight os)

few_pieces : (n : ℕ) → length (pieces 31 n) ≤ suc n
unfolding count_of
few_pieces n = rw (pieces_count 31 (omega arith) n) (omega (arith, div-le_self (n - 1) 31))

few_steps : (before : Before) (os : List Operation) → length (steps_from 31 before os) ≤ weight os
unfolding steps_from weight
few_steps before [] = omega arith
few_steps before (write bytes ∷ os) =
    rw (length-append, write_count) (omega (arith, few_pieces (length bytes), few_steps (after to_sensor) os))
few_steps before (read n ∷ os) =
    rw (length-append, read_count) (omega (arith, few_pieces n, few_steps (after from_sensor) os))

few_with_list : (ss : List Step) → length (with_list ss) ≤ length ss
unfolding with_list
few_with_list [] = omega arith
few_with_list (s ∷ ss) = go (listless s) (few_with_list ss) where
  go : (t : Bool) → length (with_list ss) ≤ length ss → length (cond t (with_list ss) (s ∷ with_list ss)) ≤ suc (length ss)
  go true h = omega (arith, h)
  go false h = omega (arith, h)

kept_weight : (os : List Operation) → weight (kept os) ≤ weight os
unfolding kept weight
kept_weight [] = omega arith
kept_weight (write bytes ∷ os) = omega (arith, kept_weight os)
kept_weight (read zero ∷ os) = omega (arith, kept_weight os)
kept_weight (read (suc n) ∷ os) = omega (arith, kept_weight os)

taken : (n : ℕ) (l : List ℕ) → length (take n l) ≤ n
taken zero l = omega arith
taken (suc n) [] = omega arith
taken (suc n) (x ∷ l) = omega (arith, taken n l)

-- every operation takes bytes of the script, and a write as many more as it has
abbrev Weighs : ℕ → List ℕ → Option (List Operation) → Type 0
Weighs due bytes none = Unit {0}
Weighs due bytes (some os) = weight os + due ≤ read_total os + length bytes

script_weight : (due : ℕ) (bytes : List ℕ) → Weighs due bytes (operations_from due bytes)
unfolding operations_from weight read_total
script_weight zero [] = omega arith
script_weight (suc due) [] = tt
script_weight (suc due) (b ∷ bytes) = go (operations_from due bytes) (script_weight due bytes) where
  go : (o : Option (List Operation)) → Weighs due bytes o → Weighs (suc due) (b ∷ bytes) o
  go none h = tt
  go (some os) h = omega (arith, h)
script_weight zero (high ∷ []) = tt
script_weight zero (high ∷ low ∷ []) = tt
script_weight zero (high ∷ low ∷ kind ∷ rest) =
    go (eqb kind 0) (eqb kind 1) (script_weight (big_endian high low) rest) (script_weight zero rest)
  where
    writes :
        (n : ℕ) (o : Option (List Operation))
        → Weighs n rest o
        → Weighs zero (high ∷ low ∷ kind ∷ rest) (map (λ (os : List Operation). write (take n rest) ∷ os) o)
    writes n none h = tt
    writes n (some os) h = omega (arith, h, taken n rest)

    reads :
        (n : ℕ) (o : Option (List Operation))
        → Weighs zero rest o
        → Weighs zero (high ∷ low ∷ kind ∷ rest) (map (λ (os : List Operation). read n ∷ os) o)
    reads n none h = tt
    reads n (some os) h = omega (arith, h)

    go :
        (w r : Bool)
        → Weighs (big_endian high low) rest (operations_from (big_endian high low) rest)
        → Weighs zero rest (operations_from zero rest)
        → Weighs zero (high ∷ low ∷ kind ∷ rest)
        (cond w (map (λ (os : List Operation). write (take (big_endian high low) rest) ∷ os) (operations_from (big_endian high low) rest))
        (cond r (map (λ (os : List Operation). read (big_endian high low) ∷ os) (operations_from zero rest)) none))
    go true r hw hr = writes (big_endian high low) (operations_from (big_endian high low) rest) hw
    go false true hw hr = reads (big_endian high low) (operations_from zero rest) hr
    go false false hw hr = tt

-- THE NUMBER of lists of an accepted script
pub few_lists : (address : ℕ) (script : List ℕ) (os : List Operation) → script_of address script ≡ asks os → length (turns_of 31 os) ≤ 8192
unfolding turns_of
few_lists address script os e =
    let facts = accepted_facts address script os e in
    let whole : weight os + 0 ≤ read_total os + length (drop 3 script) = rw facts.3 at (script_weight 0 (drop 3 script)) in
    omega (arith, facts.2, facts.4, whole, length-drop 3 script, kept_weight os, few_steps nothing (kept os), few_with_list (steps_from 31 nothing (kept os)))

-- a place at which there is a list is below it
abbrev is_list : Turn → Bool
is_list (turn s landing) = true
is_list over = false
is_list beyond = false

inside : (landing place : ℕ) (ss : List Step) → is_list (turn_at landing place ss) ≡ true → place < length ss
unfolding turn_at
inside landing zero [] e = absurd (false≢true e)
inside landing (suc place) [] e = absurd (false≢true e)
inside landing zero (s ∷ ss) e = omega arith
inside landing (suc place) (s ∷ ss) e = omega (arith, inside (landing + receives s) place ss e)

pub place_below :
    (address : ℕ) (script : List ℕ) (os : List Operation) (place : ℕ) (s : Step) (landing : ℕ)
    → script_of address script ≡ asks os
    → turn_at 0 place (turns_of 31 os) ≡ turn s landing
    → place < 8192
place_below address script os place s landing e found =
    omega (arith, inside 0 place (turns_of 31 os) (ap is_list found), few_lists address script os e)
