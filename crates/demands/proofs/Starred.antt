-- Document 01's starred cases hold, each by computation.
-- Assumes nothing.
use mathlib.Core.Path.{refl}
use Rattle.bus.specs.Traffic.{opening, next_byte}
use Rattle.command.specs.Word.{meaning_of, within}
use Rattle.chunks.specs.Pieces.{piece_of, pieces_by, pieces}
use Rattle.bus.specs.Operations.{kept}
use Rattle.list.specs.Lists.{sent_bytes, write_fifo, write_commands, read_fifo, read_commands, padded, listed, unlisted, write_of, read_of, write_step_of, read_step_of}
use Rattle.script.specs.Records.{operations_from}
use Rattle.script.specs.Scripts.{read_total, body_of, script_of}
use Rattle.turns.specs.Steps.{write_steps, read_steps, steps_from}
use Rattle.turns.specs.Plan.{lists_of, planned}
use Rattle.controller.specs.Rules.{effect_of}
use Rattle.controller.specs.Model.{put, get, obey, run_from, run_list, in_phase}
use Rattle.controller.specs.Verdicts.{inspected}
use Rattle.outcome.specs.Outcomes.{errors_of, poll_of, slots_of, commands_of}
use Rattle.bus_clear.specs.Clear.{step_of}
use Rattle.demands.specs.Clears.{polled_with, made_with, sampled, rises, falls}
use Rattle.demands.specs.Starred.{AllHold, starred}

pub starred_cases : AllHold starred
unfolding kept read_fifo read_commands write_step_of read_step_of operations_from read_total body_of script_of write_steps read_steps steps_from lists_of planned opening next_byte meaning_of within piece_of pieces_by pieces sent_bytes write_fifo write_commands padded listed unlisted write_of read_of effect_of put get obey run_from run_list in_phase inspected errors_of poll_of slots_of commands_of step_of polled_with made_with sampled rises falls
starred_cases = (refl, (refl, (refl, (refl, (refl, (refl, (refl, (refl, (refl, (refl, (refl, (refl, (refl, (refl, (refl, (refl, (refl, (refl, (refl, (refl, (refl, (refl, (refl, (refl, (refl, (refl, (refl, (refl, (refl, (refl, (refl, (refl, (refl, tt)))))))))))))))))))))))))))))))))
