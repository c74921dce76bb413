-- Laws of planned lists: the lists of the turns, one for each, are the plan.
-- Assumes nothing.
use Rattle.std.specs.Prelude.{Ok}
use Prim.Native.Nat.{ℕ, suc, ◌≤◌}
use native.Mathlib.Omega.{arith}
use mathlib.Core.Path.{◌≡◌, refl, sym, ap}
use mathlib.Core.Bool.{Bool, true, false, cond}
use mathlib.Core.List.{List, [], ◌∷◌, ◌++◌, map}
use lib.ListN.{length, drop, length-take}
use lib.Dec.{eqb}
use borrow.Author.Tests.{le-ltb, ne_eqb, eqb-false}
use Rattle.bus.specs.Events.{to_sensor, from_sensor}
use Rattle.bus.specs.Operations.{Operation, write, read, kept}
use Rattle.chunks.specs.Pieces.{pieces}
use Rattle.chunks.proofs.Laws.{pieces_by_lem}
use Rattle.chunks.proofs.Pieces.{Each}
use Rattle.list.specs.declared.Answer.TheVariants.{Listed, NoList}
use Rattle.list.specs.declared.Built.{Built}
use Rattle.list.specs.declared.CommandList.{CommandList}
use Rattle.list.specs.Lists.{write_limit, read_limit, listed, unlisted, write_step_of, read_step_of}
use Rattle.list.proofs.Laws.{write_limit_opened, write_listed, read_listed}
use Rattle.turns.specs.Steps.{Step, write_step, read_step, Before, nothing, after, starts, is_empty, read_follows, write_steps, read_steps, steps_from}
use Rattle.turns.specs.Plan.{built_of, list_of, lists_of, planned}
use Rattle.turns.specs.Turns.{listless, with_list, turns_of}

-- a step's bytes fit a chunk
abbrev Fits : Step → Type 0
Fits (write_step bytes start stop) = length bytes ≤ 31
Fits (read_step n start stop continues) = n ≤ 31

abbrev AllFit : List Step → Type 0
AllFit [] = Unit {0}
AllFit (s ∷ ss) = Fits s × AllFit ss

fit_append : (a b : List Step) → AllFit a → AllFit b → AllFit (a ++ b)
fit_append [] b h k = k
fit_append (s ∷ a) b h k = (h.0, fit_append a b h.1 k)

abbrev Small : ℕ → Type 0
Small p = p ≤ 31

pieces_small : (n : ℕ) → Each Small (pieces 31 n)
pieces_small = pieces_by_lem 31 (omega arith) (λ r ls. Each Small ls) (λ r h. (h, tt)) (λ r h k. (omega arith, (omega arith, tt))) (λ r ls h e. (omega arith, e))

write_fit : (ns bytes : List ℕ) (start stop : Bool) → Each Small ns → AllFit (write_steps ns bytes start stop)
unfolding write_steps
write_fit [] bytes start stop h = tt
write_fit (n ∷ ns) bytes start stop h =
    (omega (arith, h.0, length-take n bytes), write_fit ns (drop n bytes) false stop h.1)

read_fit : (ns : List ℕ) (start stop continues : Bool) → Each Small ns → AllFit (read_steps ns start stop continues)
unfolding read_steps
read_fit [] start stop continues h = tt
read_fit (n ∷ ns) start stop continues h = (h.0, read_fit ns false stop continues h.1)

steps_fit : (b : Before) (os : List Operation) → AllFit (steps_from 31 b os)
unfolding steps_from
steps_fit b [] = tt
steps_fit b (write bytes ∷ os) =
    fit_append (write_steps (pieces 31 (length bytes)) bytes (starts b to_sensor) (is_empty os)) (steps_from 31 (after to_sensor) os)
    (write_fit (pieces 31 (length bytes)) bytes (starts b to_sensor) (is_empty os) (pieces_small (length bytes)))
    (steps_fit (after to_sensor) os)
steps_fit b (read n ∷ os) =
    fit_append (read_steps (pieces 31 n) (starts b from_sensor) (is_empty os) (read_follows os)) (steps_from 31 (after from_sensor) os)
    (read_fit (pieces 31 n) (starts b from_sensor) (is_empty os) (read_follows os) (pieces_small n))
    (steps_fit (after from_sensor) os)

module _ (address : ℕ) (known : address ≤ 127) where
  none_empty : (bytes : List ℕ) → is_empty bytes ≡ eqb (length bytes) 0
  none_empty [] = refl
  none_empty (b ∷ bytes) = sym (ne_eqb (suc (length bytes)) 0 (λ e. absurd (omega arith)))

  -- a step without a list, and one with
  without : (s : Step) → listless s ≡ true → (built_of 32 address s).answer ≡ Ok NoList
  unfolding write_step_of read_step_of unlisted
  without (write_step bytes start stop) e = rw (le-ltb 127 address known, ← none_empty bytes, e)
  without (read_step n start stop continues) e = rw (le-ltb 127 address known, e)

  room : (start : Bool) (n : ℕ) → n ≤ 31 → n ≤ write_limit 32 address start
  room true n h = omega (arith, write_limit_opened 32 address)
  room false n h = omega arith

  read_room : (continues : Bool) (n : ℕ) → n ≤ 31 → n ≤ read_limit 32 continues
  read_room true n h = omega arith
  read_room false n h = omega arith

  with_one : (s : Step) → Fits s → listless s ≡ false → (built_of 32 address s).answer ≡ Ok Listed
  unfolding write_step_of read_step_of listed
  with_one (write_step bytes start stop) h e =
      rw (le-ltb 127 address known, ← none_empty bytes, e)
      (ap (λ (b : Built). b.answer) (write_listed 32 address known start stop bytes (room start (length bytes) h)))
  with_one (read_step n start stop continues) h e =
      rw (le-ltb 127 address known, e)
      (ap (λ (b : Built). b.answer) (read_listed 32 address known start stop n continues (omega (arith, eqb-false n 0 e)) (read_room continues n h)))

  abbrev pub list_for : Step → CommandList
  list_for s = (built_of 32 address s).list

  lists : (ss : List Step) → AllFit ss → map list_for (with_list ss) ≡ lists_of 32 address ss
  unfolding with_list lists_of
  lists [] h = refl
  lists (s ∷ ss) h = go (listless s) refl (lists ss h.1) where
    go :
        (t : Bool)
        → listless s ≡ t
        → map list_for (with_list ss) ≡ lists_of 32 address ss
        → map list_for (cond t (with_list ss) (s ∷ with_list ss)) ≡ list_of (built_of 32 address s).answer (built_of 32 address s).list ++ lists_of 32 address ss
    go true e more = rw (without s e) more
    go false e more = rw (with_one s h.0 e) (ap (λ (l : List CommandList). list_for s ∷ l) more)

  pub turns_planned : (os : List Operation) → map list_for (turns_of 31 os) ≡ planned 32 31 address os
  unfolding turns_of planned
  turns_planned os = lists (steps_from 31 nothing (kept os)) (steps_fit nothing (kept os))
