-- `chunks::calculate_chunk_size` meets its contract: each return is one case of `piece_of`.
use native.Mathlib.Omega.{arith}
use mathlib.Core.Path.{sym}
use Rattle.chunks.proofs.Laws.{piece_small, piece_near, piece_far}
use Rattle.chunks.proofs.calculate_chunk_size.Goals as goal

pub returns-then-remaining-chunk : goal.returns-then-remaining-chunk
returns-then-remaining-chunk c = sym (piece_small _ _ (omega arith))

pub returns-then-remaining-chunk-gt2 : goal.returns-then-remaining-chunk-gt2
returns-then-remaining-chunk-gt2 c = sym (piece_far _ _ (omega arith))

pub returns-then-chunk-lt2 : goal.returns-then-chunk-lt2
returns-then-chunk-lt2 c =
    let a = c.args in omega (arith, piece_near a.chunk a.remaining (omega arith) (omega arith))

pub returns : goal.returns
returns c = sym (piece_near _ _ (omega arith) (omega arith))
