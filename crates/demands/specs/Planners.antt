-- What is asked of a planner, and planners that are wrong. A planner gives the lists for an address and operations, in the base's sizes.
use Rattle.std.specs.Prelude.{ℕ, ◌≤◌, ◌≡◌, false, List, [], ◌∷◌, ◌++◌, map, take, drop, replicate, Option, Some, None}
use Rattle.bus.specs.Operations.{Operation, write, read, kept}
use Rattle.bus.specs.Traffic.{traffic, cut}
use Rattle.controller.specs.declared.Phase.{Phase}
use Rattle.controller.specs.declared.Phase.TheVariants.{Idle}
use Rattle.controller.specs.Model.{Sensor, Commands, run_lists, phase_number, events_of}
use Rattle.controller.specs.Verdicts.{inspected}
use Rattle.turns.specs.Steps.{Step, write_step, read_step, nothing, steps_from}
use Rattle.turns.specs.Plan.{lists_of, planned}
use Rattle.demands.specs.Built.{held}

abbrev pub Planner : Type 0
Planner = ℕ → List Operation → List Commands

abbrev pub our_planner : Planner
our_planner address os = map held (planned 32 31 address os)

-- demand 3: "Every planned list passes in its turn from Idle"
abbrev pub passing_on : Option Phase → (Phase → Option Phase) → Option Phase
passing_on None next = None
passing_on (Some p) next = next p

unfoldable pub in_turn : ℕ → List Commands → Phase → Option Phase
in_turn f [] p = Some p
in_turn f (l ∷ ls) p = passing_on (inspected f l (phase_number p)) (λ q. in_turn f ls q)

abbrev pub PassesInTurn : Planner → Type 0
PassesInTurn plan = (address : ℕ) (os : List Operation) → address ≤ 127 → in_turn 32 (plan address os) Idle ≡ Some Idle

-- demands 2 and 3: "the bus traffic equals a definition written from UM10204", for every sensor
abbrev pub PutsTraffic : Planner → Type 0
PutsTraffic plan =
    (address : ℕ) (os : List Operation) (k : Sensor)
    → address ≤ 127
    → events_of (run_lists 32 (plan address os) Idle k) ≡ cut k.refuses (traffic address k.sends (kept os))

-- WRONG PLANNERS
-- it refuses all
abbrev pub plans_nothing : Planner
plans_nothing address os = []

-- one list without a command
abbrev pub empty_list : Planner
empty_list address os = record { words = replicate 8 0; fifo = [] } ∷ []

-- one fixed list: START, the address 29 hex for a write, STOP
abbrev pub fixed_list : Planner
fixed_list address os = record { words = 0x3000 ∷ 0x0901 ∷ 0x1000 ∷ replicate 5 0; fifo = 0x52 ∷ [] } ∷ []

-- a right first list, and bare STOPs after it
abbrev pub bare_stops : Planner
bare_stops address os =
    take 1 (our_planner address os)
    ++ map (λ (l : Commands). record { words = 0x1000 ∷ replicate 7 0; fifo = [] }) (drop 1 (our_planner address os))

-- the empty writes are dropped too
unfoldable pub without_empty_writes : List Operation → List Operation
without_empty_writes [] = []
without_empty_writes (write [] ∷ os) = without_empty_writes os
without_empty_writes (write (b ∷ bytes) ∷ os) = write (b ∷ bytes) ∷ without_empty_writes os
without_empty_writes (read n ∷ os) = read n ∷ without_empty_writes os

abbrev pub drops_empty_writes : Planner
drops_empty_writes address os = our_planner address (without_empty_writes os)

-- every piece of a read ends with NACK
abbrev pub ending : Step → Step
ending (write_step bytes start stop) = write_step bytes start stop
ending (read_step n start stop continues) = read_step n start stop false

abbrev pub nacks_every_piece : Planner
nacks_every_piece address os = map held (lists_of 32 address (map ending (steps_from 31 nothing (kept os))))

-- neighbours are compared before the empty reads are dropped
abbrev pub compares_first : Planner
compares_first address os = map held (lists_of 32 address (steps_from 31 nothing os))
