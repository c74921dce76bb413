-- Laws of a list that is asked for, for citing: it has few FIFO bytes; and its flags.
-- Assumes nothing.
use Prim.Native.Nat.{ℕ, ◌%◌, ◌≤◌}
use native.Mathlib.Nat.{div-one}
use native.Mathlib.Omega.{arith}
use mathlib.Core.Path.{◌≡◌, ap}
use mathlib.Core.Bool.{Bool, true, false}
use mathlib.Core.List.{List}
use lib.ListN.{length}
use lib.Dec.{ltb, eqb}
use borrow.Author.Tests.{ltb-false}
use Rattle.list.specs.declared.Built.{Built}
use Rattle.list.specs.Lists.{invalid, write_limit, read_limit, write_fifo, read_fifo, listed, unlisted, write_of, read_of}
use Rattle.list.proofs.Laws.{write_opened_fifo, write_more_fifo, read_opened_fifo, read_more_fifo, write_limit_opened}
use Rattle.outcome.specs.Packed.{bit_of}
use Rattle.sitankulo.specs.Lists.{starting}
use Rattle.sitankulo.proofs.LawsTests.{by_test}

-- no list has more than 32 FIFO bytes
write_fits :
    (address : ℕ) (bytes : List ℕ) (start : Bool)
    → length bytes ≤ write_limit 32 address start
    → length (write_fifo address bytes start) ≤ 32
write_fits address bytes true h = rw (write_opened_fifo address bytes) (omega (arith, write_limit_opened 32 address))
write_fits address bytes false h = rw (write_more_fifo address bytes) h

read_fits : (address : ℕ) (start : Bool) → length (read_fifo address start) ≤ 32
read_fits address true = rw (read_opened_fifo address) (omega arith)
read_fits address false = rw (read_more_fifo address) (omega arith)

abbrev Few : Built → Type 0
Few b = b.list.count ≤ 32

pub write_few :
    (address : ℕ) (bytes : List ℕ) (start stop : Bool)
    → (write_of 32 address bytes start stop).list.count ≤ 32
unfolding write_of listed unlisted
write_few address bytes start stop =
    by_test Few (invalid address) _ _ (λ h. omega arith)
    (λ h. by_test Few (ltb (write_limit 32 address start) (length bytes)) _ _ (λ k. omega arith)
    (λ k. write_fits address bytes start (ltb-false (write_limit 32 address start) (length bytes) k)))

pub read_few :
    (address n : ℕ) (start stop continues : Bool)
    → (read_of 32 address n start stop continues).list.count ≤ 32
unfolding read_of listed unlisted
read_few address n start stop continues =
    by_test Few (invalid address) _ _ (λ h. omega arith)
    (λ h. by_test Few (eqb n 0) _ _ (λ k. omega arith)
    (λ k. by_test Few (ltb (read_limit 32 continues) n) _ _ (λ l. omega arith) (λ l. read_fits address start)))

-- the first of the flags
pub first_bit : (flags : ℕ) → bit_of 1 flags ≡ starting flags
first_bit flags = ap (λ (n : ℕ). eqb (n % 2) 1) (div-one flags)
