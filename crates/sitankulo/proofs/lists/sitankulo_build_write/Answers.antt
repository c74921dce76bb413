-- `sitankulo::lists::sitankulo_build_write` meets its contract.
use Rattle.sitankulo.proofs.LawsLists.{write_few, first_bit}
use Rattle.sitankulo.proofs.lists.sitankulo_build_write.Goals as goal

pub hand_out-requires : goal.hand_out-requires
hand_out-requires c = rw c.setup_write-built.ensures (write_few _ _ _ _)

pub returns : goal.returns
returns c =
    rw c.told.ensures
    (rw (c.setup_write-built.ensures, c.bit.ensures, c.bit-2.ensures, first_bit c.args.flags) at c.hand_out.ensures)
