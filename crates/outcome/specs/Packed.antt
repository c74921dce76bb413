-- A snapshot's bits as one byte. The order is ours: the faults in the order of 01, "Outcomes", then resp_rec and the two done bits.
use Rattle.std.specs.Prelude.{ℕ, ◌/◌, ◌%◌, Bool, List, eqb}
use Rattle.outcome.specs.declared.Snapshot.{Snapshot}

-- the bit of this value is set
abbrev pub bit_of : ℕ → ℕ → Bool
bit_of value bits = eqb (bits / value % 2) 1

abbrev pub unpacked : ℕ → List ℕ → ℕ → Snapshot
unpacked bits commands now =
    record {
      nack = eqb (bits % 2) 1;
      arbitration_lost = bit_of 2 bits;
      scl_st_to = bit_of 4 bits;
      scl_main_st_to = bit_of 8 bits;
      time_out = bit_of 16 bits;
      resp_rec = bit_of 32 bits;
      trans_complete = bit_of 64 bits;
      end_detect = bit_of 128 bits;
      commands = commands;
      now = now;
    }
