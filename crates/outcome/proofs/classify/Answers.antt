-- `outcome::classify` meets its contract: after a poll that has succeeded, now or before, the check decides.
use Rattle.std.proofs.Common.{◌≡◌, rules, sym}
use Rattle.outcome.specs.Outcomes.{and_then, commands_of, classify_of}
use Rattle.outcome.proofs.classify.Goals.{then-polled, else-polled}
use Rattle.outcome.proofs.classify.Goals as goal

pub returns-in-Done : goal.returns-in-Done
unfolding classify_of
returns-in-Done c =
    let checked : c.and_then.result ≡ and_then c.if-polled.poll (commands_of c.args.s c.args.due) = search (rules, c.and_then.ensures) in
    elim c.if-polled.branch [
      | then-polled w ↦ rw (checked, c.in-Done.is, w.if-polled.true)
      | else-polled w ↦ rw (checked, c.in-Done.is, w.if-polled.false, sym w.poll_completion-poll.ensures, sym w.poll-is, c.in-Done.is)
    ]
