-- The names of phases as text, after 01, "Inspector and controller model".
use Rattle.std.specs.Prelude.{ℕ, List, codes}
use Rattle.controller.specs.declared.Phase.{Phase}
use Rattle.controller.specs.declared.Phase.TheVariants.{Idle, Started, Writing, Reading, ReadDone}

abbrev pub phase_name : Phase → List ℕ
phase_name Idle = codes "Idle"
phase_name Started = codes "Started"
phase_name Writing = codes "Writing"
phase_name Reading = codes "Reading"
phase_name ReadDone = codes "ReadDone"
