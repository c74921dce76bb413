-- `list::write_words` meets its contract: what is pushed is each command of the definition, in order.
use native.Mathlib.Omega.{arith}
use native.Mathlib.Numerals.{add-one}
use mathlib.Core.Path.{◌≡◌, sym}
use lib.ListN.{length}
use Rattle.command.specs.declared.Command.TheVariants.{Write}
use Rattle.list.specs.Lists.{write_commands}
use Rattle.list.proofs.Laws.{counted_some, write_opened_fifo, write_more_fifo}
use Rattle.list.proofs.write_words.Goals as goal

pub returns-then-start : goal.returns-then-start
unfolding write_commands
returns-then-start c address bytes e =
    rw (
      c.words.ensures,
      c.close.ensures,
      c.push-then-start.ensures,
      c.push.ensures,
      c.new-table.ensures,
      c.if-start.true,
      write_opened_fifo,
      e,
      add-one (length bytes),
    )

pub returns-then-n-gt0 : goal.returns-then-n-gt0
unfolding write_commands
returns-then-n-gt0 c address bytes e =
    rw (
      c.words-then-n-gt0.ensures,
      c.close-then-n-gt0.ensures,
      c.push-then-n-gt0.ensures,
      c.new-table.ensures,
      c.if-start.false,
      write_more_fifo,
      e,
      counted_some Write (length bytes) (omega arith),
    )

pub returns : goal.returns
unfolding write_commands
returns c address bytes e =
    let none : c.args.n ≡ 0 = omega arith in
    rw (c.words-2.ensures, c.close-2.ensures, c.new-table.ensures, c.if-start.false, write_more_fifo, sym e, none)
