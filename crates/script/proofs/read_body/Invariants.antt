-- `script::read_body` meets its contract. The loop's invariant: what is ahead, and the bytes read so far, give the whole answer.
use Rattle.std.proofs.Common.{◌≡◌, ◌-◌, ◌*◌, ◌≤◌, length, drop}
use Rattle.script.specs.Records.{records_of}
use Rattle.script.proofs.LawsWalk.{ahead}
use Rattle.script.proofs.read_body.Given as goal

abbrev pub invariant-loop-length : goal.invariant-loop-length
invariant-loop-length l = (l.at ≤ length l.body) × (l.total ≤ 65535 * l.at) × (ahead l.total (records_of (drop l.at l.body)) ≡ ahead 0 (records_of l.body))

abbrev pub decreases-loop-length : goal.decreases-loop-length
decreases-loop-length l = length l.body - l.at
