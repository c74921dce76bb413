-- `transaction::walk::cut` meets its contract.
use mathlib.Core.Path.{◌∙◌}
use Rattle.chunks.proofs.Laws.{start_most}
use Rattle.transaction.proofs.LawsCut.{only_start, only_size, only_flags}
use Rattle.transaction.proofs.walk.cut.Goals as goal

pub returns-then-length-le-CHUNK : goal.returns-then-length-le-CHUNK
returns-then-length-le-CHUNK c =
    let args = c.args in (
      only_start args.length args.at c.if-length-le-CHUNK.true c.requires,
      only_size args.length args.at c.if-length-le-CHUNK.true c.requires,
      only_flags args.length args.at c.if-length-le-CHUNK.true c.requires args.flags,
    )

pub overflow_sub-length : goal.overflow_sub-length
overflow_sub-length c =
    let args = c.args in
    rw c.piece_start-offset.ensures (start_most 31 args.length args.at)

pub returns : goal.returns
returns c = (
  c.piece_start-offset.ensures,
  c.calculate_chunk_size.ensures,
  c.flags_at.ensures ∙ rw c.count_pieces-all.ensures,
)
