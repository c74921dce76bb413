-- `list::setup_write` meets its contract: the words and bytes are those of the definition where no refusal is due.
use Prim.Native.Nat.{◌≤◌}
use native.Mathlib.Numerals.{add-one}
use native.Mathlib.Omega.{arith}
use mathlib.Core.Path.{refl}
use lib.ListN.{length}
use Rattle.list.specs.Lists.{write_limit}
use Rattle.list.proofs.Laws.{write_limit_opened, write_limit_most, write_opened_fifo, write_more_fifo, write_listed}
use Rattle.list.proofs.setup_write.Goals.{Else-n-write_limit, Then-start}
use Rattle.list.proofs.setup_write.Goals as goal

within : (c : Else-n-write_limit) → let a = c.args in length a.bytes.now ≤ write_limit 32 a.address a.start
within c = rw (c.write_limit.ensures c.args.address) at c.if-n-write_limit.false

fits : (c : Else-n-write_limit) → length c.args.bytes.now ≤ 32
fits c =
    let a = c.args in omega (arith, within c, write_limit_most 32 a.address a.start)

pub write_words-words-requires : goal.write_words-words-requires
write_words-words-requires c = fits c

pub fifo_of-requires : goal.fifo_of-requires
fifo_of-requires c =
    let a = c.args in
    let h = rw (c.write_limit.ensures a.address, c.if-start.true, write_limit_opened 32 a.address) at c.if-n-write_limit.false in
    omega arith

pub fifo_of-requires-2 : goal.fifo_of-requires-2
fifo_of-requires-2 c = omega (arith, fits (goal.at.fifo_of-requires-2 c).Else-n-write_limit)

pub returns-then-start : goal.returns-then-start
returns-then-start c =
    rw (
      write_listed 32 _ c.if-address-gt-LAST_ADDRESS.false _ _ _ (within (goal.at.returns-then-start c).Else-n-write_limit),
      c.if-start.true,
      write_opened_fifo,
    )
    (c.with_list.ensures _ _ (rw (← c.if-start.true) (c.write_words-words.ensures _ _ refl)) c.fifo_of.ensures (add-one _))

pub returns : goal.returns
returns c =
    rw (
      write_listed 32 _ c.if-address-gt-LAST_ADDRESS.false _ _ _ (within (goal.at.returns c).Else-n-write_limit),
      c.if-start.false,
      write_more_fifo,
    )
    (c.with_list-2.ensures _ _ (rw (← c.if-start.false) (c.write_words-words.ensures _ _ refl)) c.fifo_of-2.ensures refl)
