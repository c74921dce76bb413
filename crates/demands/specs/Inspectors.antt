-- Demand 3, first half, as predicates over an inspector, and inspectors that are wrong. The first argument is the size of the FIFO.
use Rattle.command.specs.declared.Command.{Command}
use Rattle.std.specs.Prelude.{ℕ, ◌+◌, ◌≡◌, Bool, true, false, cond, ◌&&◌, List, [], ◌∷◌, take, Option, Some, None}
use Rattle.command.specs.declared.Command.TheVariants.{Start, Write, Read, ReadNack, Stop, End}
use Rattle.command.specs.Word.{meaning_of}
use Rattle.controller.specs.declared.Phase.{Phase}
use Rattle.controller.specs.declared.Phase.TheVariants.{Idle}
use Rattle.controller.specs.Model.{Sensor, stuck, Commands, end_of}
use Rattle.controller.specs.Verdicts.{willing, run_one, inspected}

-- an inspector: a verdict for every list and every number of a phase
abbrev pub Inspector : Type 0
Inspector = Commands → ℕ → Option Phase

-- "what the inspector passes never gets stuck on the controller model, whatever the sensor answers"
abbrev pub Sound : ℕ → Inspector → Type 0
Sound f inspect =
    (l : Commands) (n : ℕ) (p : Phase) → inspect l n ≡ Some p → (k : Sensor) → end_of (run_one f l n k) ≡ stuck → ⊥

-- "what it refuses gets stuck against a sensor that acknowledges everything"
abbrev pub Complete : ℕ → Inspector → Type 0
Complete f inspect = (l : Commands) (n : ℕ) → inspect l n ≡ None → end_of (run_one f l n willing) ≡ stuck

-- WRONG: refuses all
abbrev pub refuses_all : Inspector
refuses_all l n = None

-- WRONG: passes all
abbrev pub passes_all : Inspector
passes_all l n = Some Idle

-- WRONG: looks past the finish, and wants every word to mean a command
abbrev pub is_planned : Option Command → Bool
is_planned (Some c) = true
is_planned None = false

abbrev pub all_planned : List ℕ → Bool
all_planned [] = true
all_planned (word ∷ more) = is_planned (meaning_of word) && all_planned more

abbrev pub looks_past_the_finish : ℕ → Inspector
looks_past_the_finish f l n = cond (all_planned l.words) (inspected f l n) None

-- WRONG: forgets that the FIFO must be empty: the bytes that no WRITE takes are left out
abbrev pub bytes_taken : Option Command → ℕ
bytes_taken (Some Start) = 0
bytes_taken (Some (Write n)) = n
bytes_taken (Some (Read n)) = 0
bytes_taken (Some ReadNack) = 0
bytes_taken (Some Stop) = 0
bytes_taken (Some End) = 0
bytes_taken None = 0

abbrev pub taken : List ℕ → ℕ
taken [] = 0
taken (word ∷ more) = bytes_taken (meaning_of word) + taken more

abbrev pub forgets_the_fifo : ℕ → Inspector
forgets_the_fifo f l n = inspected f (record { words = l.words; fifo = take (taken l.words) l.fifo }) n
