-- `list::setup_read` meets its contract: the words and bytes are those of the definition where no refusal is due.
use Prim.Native.Nat.{◌≤◌}
use native.Mathlib.Omega.{arith}
use mathlib.Core.Path.{refl}
use Rattle.list.specs.Lists.{read_limit}
use Rattle.list.proofs.Laws.{read_opened_fifo, read_more_fifo, read_listed}
use Rattle.list.proofs.setup_read.Goals.{Else-n-read_limit}
use Rattle.list.proofs.setup_read.Goals as goal

within : (c : Else-n-read_limit) → let a = c.args in a.n ≤ read_limit 32 a.continues
within c = rw c.read_limit.ensures at c.if-n-read_limit.false

pub returns-then-start : goal.returns-then-start
returns-then-start c =
    rw (
      read_listed 32 _ c.if-address-gt-LAST_ADDRESS.false _ _ _ _ (omega arith) (within (goal.at.returns-then-start c).Else-n-read_limit),
      c.if-start.true,
      read_opened_fifo,
    )
    (c.with_list.ensures _ _ (rw (← c.if-start.true) (c.read_words-words.ensures _)) c.fifo_of.ensures refl)

pub returns : goal.returns
returns c =
    rw (
      read_listed 32 _ c.if-address-gt-LAST_ADDRESS.false _ _ _ _ (omega arith) (within (goal.at.returns c).Else-n-read_limit),
      c.if-start.false,
      read_more_fifo,
    )
    (c.with_list-2.ensures _ _ (rw (← c.if-start.false) (c.read_words-words.ensures _)) c.fifo_of-2.ensures refl)
