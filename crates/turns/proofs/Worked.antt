-- Plans of a few operations, worked out: what document 01 warns of.
-- Assumes nothing.
use mathlib.Core.Path.{◌≡◌, refl}
use mathlib.Core.Bool.{true, false}
use mathlib.Core.List.{[], ◌∷◌}
use lib.ListN.{replicate}
use Rattle.bus.specs.Operations.{write, read, kept}
use Rattle.chunks.specs.Pieces.{piece_of, pieces_by, pieces}
use Rattle.turns.specs.Steps.{write_step, read_step, nothing, write_steps, read_steps, steps_from}

-- a read of 32 is acknowledged over its first piece, and refused only at its end
pub read_across_the_fifo :
    steps_from 31 nothing (read 32 ∷ []) ≡ read_step 29 true false true ∷ read_step 3 false true false ∷ []
unfolding piece_of pieces_by pieces read_steps steps_from
read_across_the_fifo = refl

-- an empty read between two writes parts them not
pub empty_read_joins :
    steps_from 31 nothing (kept (write (7 ∷ []) ∷ read 0 ∷ write (8 ∷ []) ∷ []))
    ≡ write_step (7 ∷ []) true false ∷ write_step (8 ∷ []) false true ∷ []
unfolding kept piece_of pieces_by pieces write_steps steps_from
empty_read_joins = refl

-- an empty write at the end stops
pub empty_write_stops :
    steps_from 31 nothing (kept (write (7 ∷ []) ∷ write [] ∷ [])) ≡ write_step (7 ∷ []) true false ∷ write_step [] false true ∷ []
unfolding kept piece_of pieces_by pieces write_steps steps_from
empty_write_stops = refl

-- a write of 33: two pieces, one START, one STOP
pub write_across_the_fifo :
    steps_from 31 nothing (write (replicate 33 7) ∷ [])
    ≡ write_step (replicate 29 7) true false ∷ write_step (replicate 4 7) false true ∷ []
unfolding piece_of pieces_by pieces write_steps steps_from
write_across_the_fifo = refl

-- a read after a read goes on; a write after it starts
pub reads_in_a_row :
    steps_from 31 nothing (read 2 ∷ read 3 ∷ write [] ∷ [])
    ≡ read_step 2 true false true ∷ read_step 3 false false false ∷ write_step [] true true ∷ []
unfolding piece_of pieces_by pieces write_steps read_steps steps_from
reads_in_a_row = refl
