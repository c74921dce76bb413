-- How the code holds what the rules speak of: a place of a list stands for a state.
use Rattle.std.specs.Prelude.{ℕ, ◌≤◌, ◌<◌, ◌≡◌, List, length, Option, Some, None}
use Rattle.controller.specs.declared.Phase.{Phase}
use Rattle.controller.specs.declared.place.Place.{Place}
use Rattle.controller.specs.declared.place.Move.{Move}
use Rattle.controller.specs.declared.place.Move.TheVariants.{Halts, GoesOn, Finishes}
use Rattle.controller.specs.Rules.{State, Effect, halts, goes_on, finishes}

-- the state that a place stands for
abbrev pub state_at : Place → State
state_at p = record { phase = p.phase; fifo = p.fifo.now; received = p.received }

-- the first place of a list, unless its bytes exceed the FIFO
abbrev pub Begins : ℕ → List ℕ → Phase → Option Place → Type 0
Begins f fifo phase None = f < length fifo
Begins f fifo phase (Some p) = (length fifo ≤ f) × (state_at p ≡ record { phase = phase; fifo = fifo; received = 0 })

-- a move is a turn's
abbrev pub Moved : Move → Effect → Type 0
Moved Halts t = t ≡ halts
Moved (GoesOn p) t = t ≡ goes_on (state_at p)
Moved (Finishes q) t = t ≡ finishes q
