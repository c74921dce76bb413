-- THE RECORD of a transaction in memory, 25 bytes, after include/sitankulo.h: "byte 0 holds flags (1 a list is outstanding, 2 its poll
-- has succeeded, 4 the transaction has failed, 8 the list has a due time, 16 there is a fixed deadline); 1 to 8 how many lists are
-- completed; 9 to 16 the due time; 17 to 24 the fixed deadline; 0 where there is none".
use Rattle.std.specs.Prelude.{ℕ, ◌+◌, ◌%◌, Bool, cond, not, ◌&&◌, ◌||◌, List, ◌∷◌, ◌++◌, length, get_or, leb, ltb, eqb, Option, is_some, unwrap_or}
use Rattle.std.specs.Bool.{then_some}
use Rattle.outcome.specs.Packed.{bit_of}
use Rattle.transaction.specs.declared.Progress.{Progress}
use Rattle.wire.specs.Numbers.{time_bytes, time_at}

-- a time as a flag and a number
abbrev pub timed : Option ℕ → Bool
timed due = is_some due

abbrev pub time_in : Option ℕ → ℕ
time_in due = unwrap_or due 0

abbrev pub due_by : Bool → ℕ → Option ℕ
due_by there time = then_some there time

-- WRITTEN
abbrev pub weighed : Bool → ℕ → ℕ
weighed flag weight = cond flag weight 0

abbrev pub record_flags : Progress → ℕ
record_flags p =
    weighed p.outstanding 1 + weighed p.polled 2 + weighed p.failed 4 + weighed (timed p.due) 8 + weighed (timed p.fixed) 16

unfoldable pub record_bytes : Progress → List ℕ
record_bytes p = record_flags p ∷ (time_bytes p.place ++ (time_bytes (time_in p.due) ++ time_bytes (time_in p.fixed)))

-- READ
unfoldable pub progress_by : ℕ → ℕ → ℕ → ℕ → Progress
progress_by flags place due fixed =
    record {
      place = place;
      outstanding = eqb (flags % 2) 1;
      due = due_by (bit_of 8 flags) due;
      polled = bit_of 2 flags;
      failed = bit_of 4 flags;
      fixed = due_by (bit_of 16 flags) fixed;
    }

abbrev pub record_in : List ℕ → Progress
record_in bytes = progress_by (get_or bytes 0 0) (time_at bytes 1) (time_at bytes 9) (time_at bytes 17)

-- as a call leaves it: a list that is outstanding has not failed; else there is no poll and no due time
abbrev pub standing : Progress → Bool
standing p = cond p.outstanding (not p.failed) (not p.polled && not (timed p.due))

-- no flag is unknown, and a time that there is not is 0
abbrev pub zero_unless : Bool → ℕ → Bool
zero_unless there time = there || eqb time 0

unfoldable pub agreeing : ℕ → ℕ → ℕ → Bool
agreeing flags due fixed = ltb flags 32 && (zero_unless (bit_of 8 flags) due && zero_unless (bit_of 16 flags) fixed)

-- bytes that a call left; what lies beyond the 25 does not matter
unfoldable pub is_record : List ℕ → Bool
is_record bytes = leb 25 (length bytes) && (agreeing (get_or bytes 0 0) (time_at bytes 9) (time_at bytes 17) && standing (record_in bytes))
