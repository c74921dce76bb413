-- The turns of a transaction: its steps that have a list, one after another.
use Rattle.std.specs.Prelude.{ℕ, zero, suc, ◌+◌, Bool, cond, not, ◌&&◌, List, [], ◌∷◌, length, eqb}
use Rattle.bus.specs.Operations.{Operation, kept}
use Rattle.turns.specs.Steps.{Step, write_step, read_step, nothing, is_empty, steps_from}

-- "An empty write with neither start nor stop, and any empty read, give no list and succeed"
abbrev pub listless : Step → Bool
listless (write_step bytes start stop) = is_empty bytes && (not start && not stop)
listless (read_step n start stop continues) = eqb n 0

unfoldable pub with_list : List Step → List Step
with_list [] = []
with_list (s ∷ ss) = cond (listless s) (with_list ss) (s ∷ with_list ss)

unfoldable pub turns_of : ℕ → List Operation → List Step
turns_of c os = with_list (steps_from c nothing (kept os))

-- how many bytes a step carries, and how many of them it receives
abbrev pub carries : Step → ℕ
carries (write_step bytes start stop) = length bytes
carries (read_step n start stop continues) = n

abbrev pub receives : Step → ℕ
receives (write_step bytes start stop) = 0
receives (read_step n start stop continues) = n

-- what is found at a place, which is a number of completed lists: a step, with the place where its bytes land; or no list is left; or
-- there are not so many lists
pub data Turn : Type 0 where
  turn : Step → ℕ → Turn
  over : Turn
  beyond : Turn

-- "Reads land one after another in the read buffer."
unfoldable pub turn_at : ℕ → ℕ → List Step → Turn
turn_at landing zero [] = over
turn_at landing (suc place) [] = beyond
turn_at landing zero (s ∷ ss) = turn s landing
turn_at landing (suc place) (s ∷ ss) = turn_at (landing + receives s) place ss
