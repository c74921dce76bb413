-- `list::fifo_of` meets its contract: what is copied over zeros is padded by those that are left.
use Prim.Native.Nat.{◌+◌}
use mathlib.Core.Path.{refl}
use lib.ListN.{length}
use Rattle.list.proofs.LawsTables.{put_padded}
use Rattle.list.proofs.fifo_of.Goals as goal

pub returns : goal.returns
returns c =
    let a = c.args in
    rw (c.copy_from_slice.ensures.after, c.copy_from_slice-2.ensures.after)
    (put_padded 32 (length a.opening.now + length a.bytes.now) a.opening.now a.bytes.now refl)
