-- Snapshots for worked examples.
use Rattle.std.specs.Prelude.{ℕ, Bool, List, [], ◌∷◌}
use Rattle.outcome.specs.declared.Snapshot.{Snapshot}
use Rattle.outcome.specs.Packed.{unpacked}

-- the bits of a snapshot, in the order of their values
abbrev pub bits_in : Snapshot → List Bool
bits_in s =
    s.nack ∷ s.arbitration_lost ∷ s.scl_st_to ∷ s.scl_main_st_to
    ∷ s.time_out ∷ s.resp_rec ∷ s.trans_complete ∷ s.end_detect ∷ []

-- these bits, no command, at a time or at 0
abbrev pub at : ℕ → ℕ → Snapshot
at time bits = unpacked bits [] time

abbrev pub shown : ℕ → Snapshot
shown bits = at 0 bits

-- no bit set, these commands
abbrev pub waited : ℕ → List ℕ → Snapshot
waited time commands = unpacked 0 commands time
