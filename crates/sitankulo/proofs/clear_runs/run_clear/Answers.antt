-- `sitankulo::clear_runs::run_clear` meets its contract.
use Rattle.sitankulo.proofs.LawsClearRuns.{held_long}
use Rattle.sitankulo.proofs.clear_runs.run_clear.Goals as goal

pub put_clear-requires : goal.put_clear-requires
put_clear-requires c = held_long c.args.clear.now c.in_ok-held.held (let read = c.in_ok-held.ensures.ok_part in cc)
