-- `sitankulo::lists::sitankulo_build_read` meets its contract.
use Rattle.sitankulo.proofs.LawsLists.{read_few, first_bit}
use Rattle.sitankulo.proofs.lists.sitankulo_build_read.Goals as goal

pub hand_out-requires : goal.hand_out-requires
hand_out-requires c = rw c.setup_read-built.ensures (read_few _ _ _ _ _)

pub returns : goal.returns
returns c =
    rw c.told.ensures
    (rw (c.setup_read-built.ensures, c.bit.ensures, c.bit-2.ensures, c.bit-3.ensures, first_bit c.args.flags) at c.hand_out.ensures)
