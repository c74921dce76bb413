-- THE PLAN of a transaction: its command lists in turn. The first two arguments are the sizes of the FIFO and of a chunk: 32 and 31 in
-- the base.
use Rattle.refusal.specs.declared.Refusal.{Refusal}
use Rattle.std.specs.Prelude.{ℕ, List, [], ◌∷◌, ◌++◌, Result, Ok, Err}
use Rattle.bus.specs.Operations.{Operation, kept}
use Rattle.list.specs.declared.Answer.{Answer}
use Rattle.list.specs.declared.Answer.TheVariants.{Listed, NoList}
use Rattle.list.specs.declared.Built.{Built}
use Rattle.list.specs.declared.CommandList.{CommandList}
use Rattle.list.specs.Lists.{write_step_of, read_step_of}
use Rattle.turns.specs.Steps.{Step, write_step, read_step, nothing, steps_from}

abbrev pub built_of : ℕ → ℕ → Step → Built
built_of f address (write_step bytes start stop) = write_step_of f address bytes start stop
built_of f address (read_step n start stop continues) = read_step_of f address n start stop continues

-- the list, where there is one
abbrev pub list_of : Result Answer Refusal → CommandList → List CommandList
list_of (Ok Listed) l = l ∷ []
list_of (Ok NoList) l = []
list_of (Err r) l = []

unfoldable pub lists_of : ℕ → ℕ → List Step → List CommandList
lists_of f address [] = []
lists_of f address (s ∷ ss) = list_of (built_of f address s).answer (built_of f address s).list ++ lists_of f address ss

-- "Empty reads are dropped before neighbours are compared"
unfoldable pub planned : ℕ → ℕ → ℕ → List Operation → List CommandList
planned f c address os = lists_of f address (steps_from c nothing (kept os))
