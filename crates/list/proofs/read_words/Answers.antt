-- `list::read_words` meets its contract: what is pushed is each command of the definition, in order.
use Rattle.list.specs.Lists.{read_commands}
use Rattle.list.proofs.Laws.{read_opened_fifo, read_more_fifo}
use Rattle.list.proofs.read_words.Goals as goal

pub returns-then-start : goal.returns-then-start
unfolding read_commands
returns-then-start c address =
    rw (
      c.words.ensures,
      c.receive.ensures,
      c.push-then-start.ensures,
      c.push.ensures,
      c.new-table.ensures,
      c.if-start.true,
      read_opened_fifo,
    )

pub returns : goal.returns
unfolding read_commands
returns c address = rw (c.words-2.ensures, c.receive-2.ensures, c.new-table.ensures, c.if-start.false, read_more_fifo)
