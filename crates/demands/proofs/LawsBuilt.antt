-- Laws of the builder's lists, for citing: written bytes in two parts, the phase that a write goes on in, what is handed over and fits.
-- Assumes nothing.
use Prim.Native.Nat.{ℕ, zero, suc, ◌≤◌}
use native.Mathlib.Omega.{arith}
use mathlib.Core.Path.{◌≡◌, refl, ap}
use mathlib.Core.Bool.{Bool, true, false, false≢true}
use mathlib.Core.List.{List, [], ◌∷◌, ◌++◌}
use lib.ListN.{length}
use lib.Seq.{take-append_seam}
use Rattle.bus.specs.Events.{ack, sent}
use Rattle.command.specs.declared.Command.{Command}
use Rattle.list.specs.Lists.{write_limit, write_fifo, padded, listed}
use Rattle.list.proofs.Laws.{write_limit_opened, write_opened_fifo, write_more_fifo}
use Rattle.controller.specs.declared.Phase.{Phase}
use Rattle.controller.specs.declared.Phase.TheVariants.{Idle, Started, Writing, Reading, ReadDone}
use Rattle.controller.specs.Model.{Sensor, Run, emit, put, phase_number, in_phase}
use Rattle.demands.specs.Built.{commands_list, held, fits_write}

pub put_append :
    (xs ys sends : List ℕ) (r : ℕ) (next : Sensor → Run)
    → put (xs ++ ys) sends r next ≡ put xs sends r (λ j. put ys j.sends j.refuses next)
unfolding put
put_append [] ys sends r next = refl
put_append (x ∷ xs) ys sends zero next = ap (emit (sent x ack)) (put_append xs ys sends zero next)
put_append (x ∷ xs) ys sends (suc zero) next = refl
put_append (x ∷ xs) ys sends (suc (suc r)) next = ap (emit (sent x ack)) (put_append xs ys sends (suc r) next)

pub goes_on : (p : Phase) → fits_write false p ≡ true → p ≡ Writing
goes_on Idle h = absurd (false≢true h)
goes_on Started h = absurd (false≢true h)
goes_on Writing h = refl
goes_on Reading h = absurd (false≢true h)
goes_on ReadDone h = absurd (false≢true h)

pub held_list : (commands : List Command) (fifo : List ℕ) → held (listed commands fifo).list ≡ commands_list commands fifo
unfolding listed padded
held_list commands fifo = rw (take-append_seam fifo)

pub write_fits :
    (f : ℕ) (some : 1 ≤ f) (address : ℕ) (start : Bool) (bytes : List ℕ)
    → length bytes ≤ write_limit f address start
    → length (write_fifo address bytes start) ≤ f
write_fits f some address true bytes h = rw (write_opened_fifo address bytes) (omega (arith, write_limit_opened f address))
write_fits f some address false bytes h = rw (write_more_fifo address bytes) h

-- a phase by its number
pub in_its_phase : (p : Phase) (run : Phase → Run) → in_phase (phase_number p) run ≡ run p
unfolding in_phase
in_its_phase Idle run = refl
in_its_phase Started run = refl
in_its_phase Writing run = refl
in_its_phase Reading run = refl
in_its_phase ReadDone run = refl
