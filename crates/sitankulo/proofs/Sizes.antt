-- The sizes that include/sitankulo.h names are enough.
-- Assumes nothing.
use Prim.Native.Nat.{ℕ, ◌≤◌}
use native.Mathlib.Omega.{arith}
use mathlib.Core.List.{List}
use lib.ListN.{length}
use lib.Dec.{eqb}
use Rattle.wire.specs.Numbers.{words_of}
use Rattle.controller.specs.Model.{events_of}
use Rattle.controller.specs.Traces.{received_bytes}
use Rattle.sitankulo.specs.Lists.{write_asked, read_asked, starting, stopping, continuing}
use Rattle.sitankulo.specs.Names.{name_of}
use Rattle.sitankulo.specs.Modelling.{run_asked}
use Rattle.sitankulo.proofs.LawsTests.{by_test}
use Rattle.sitankulo.proofs.LawsLists.{write_few, read_few}
use Rattle.sitankulo.proofs.LawsModel.{few_run}

-- "SITANKULO_FIFO_SIZE 32u: no list has more FIFO bytes"
pub write_within : (address : ℕ) (bytes : List ℕ) (flags : ℕ) → (write_asked address bytes flags).list.count ≤ 32
write_within address bytes flags = write_few address bytes (starting flags) (stopping flags)

pub read_within : (address n flags : ℕ) → (read_asked address n flags).list.count ≤ 32
read_within address n flags = read_few address n (starting flags) (stopping flags) (continuing flags)

-- "how many bytes were received, at most 32", "how many events went over the bus, at most 72"
pub run_within :
    (words fifo : List ℕ) (phase : ℕ) (sends : List ℕ) (refuses : ℕ)
    → (length (received_bytes (events_of (run_asked words fifo phase sends refuses))) ≤ 32)
    × (length (events_of (run_asked words fifo phase sends refuses)) ≤ 72)
unfolding run_asked
run_within words fifo phase sends refuses =
    let few = few_run (words_of words) fifo phase sends refuses (omega arith) in (few.1, few.0)

-- "SITANKULO_NAME_SIZE 22u: no name of a refusal is longer"
abbrev Short : List ℕ → Type 0
Short name = length name ≤ 22

pub name_within : (number : ℕ) → length (name_of number) ≤ 22
unfolding name_of
name_within n =
    by_test Short (eqb n 1) _ _ (λ e. omega arith)
    (λ e. by_test Short (eqb n 2) _ _ (λ e. omega arith)
    (λ e. by_test Short (eqb n 3) _ _ (λ e. omega arith)
    (λ e. by_test Short (eqb n 4) _ _ (λ e. omega arith)
    (λ e. by_test Short (eqb n 5) _ _ (λ e. omega arith)
    (λ e. by_test Short (eqb n 6) _ _ (λ e. omega arith)
    (λ e. by_test Short (eqb n 7) _ _ (λ e. omega arith)
    (λ e. by_test Short (eqb n 8) _ _ (λ e. omega arith)
    (λ e. by_test Short (eqb n 9) _ _ (λ e. omega arith)
    (λ e. by_test Short (eqb n 10) _ _ (λ e. omega arith)
    (λ e. by_test Short (eqb n 11) _ _ (λ e. omega arith)
    (λ e. by_test Short (eqb n 12) _ _ (λ e. omega arith)
    (λ e. by_test Short (eqb n 13) _ _ (λ e. omega arith)
    (λ e. by_test Short (eqb n 14) _ _ (λ e. omega arith)
    (λ e. omega arith))))))))))))))
