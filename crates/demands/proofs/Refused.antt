-- DEMAND 1 for the calls of a transaction: a refusal keeps the record, and nothing but success writes the read buffer.
-- Assumes nothing.
use Rattle.std.specs.Prelude.{None}
use Prim.Native.Nat.{ℕ}
use native.Mathlib.Omega.{arith}
use mathlib.Core.Path.{◌≡◌, refl, ap}
use mathlib.Core.List.{List, [], ◌∷◌}
use lib.ListN.{length}
use Rattle.outcome.specs.declared.Snapshot.{Snapshot}
use Rattle.outcome.specs.Packed.{unpacked}
use Rattle.script.specs.Scripts.{script_of}
use Rattle.transaction.specs.Calls.{accepted, begin_of, next_of, complete_of, buffer_of}
use Rattle.demands.specs.Transactions.{our_calls, KeepsState, KeepsBuffer, clears_first}
use Rattle.demands.proofs.LawsRefused.{begins, hands, tells, abandoned, begun_kept, next_kept, complete_kept, abandon_kept}

pub refusals_keep_state : KeepsState our_calls
unfolding begin_of next_of complete_of
refusals_keep_state =
    record {
      by_begin = λ p settings address script room busy time r h. begun_kept p (script_of address script) settings room busy time (ap begins h);
      by_next = λ p settings address script time r h. next_kept p (script_of address script) settings address time (ap hands h);
      by_complete = λ p address script s received buffer r h. complete_kept p (script_of address script) s (length received) (length buffer) (ap tells h);
      by_abandon = λ p s r h. abandon_kept p s (ap abandoned h);
    }

pub refusals_keep_buffer : KeepsBuffer our_calls
unfolding buffer_of
refusals_keep_buffer p address script s received buffer h = rw h

-- a refused completion leaves a byte that the wrong one clears
pub clears_first_refuted : KeepsBuffer clears_first → ⊥
unfolding script_of complete_of buffer_of
clears_first_refuted h =
    let same : ◌≡◌ {A = List ℕ} (0 ∷ []) (7 ∷ []) = h (accepted None) 128 [] quiet [] (7 ∷ []) refl in
    absurd (omega (arith, ap first same))
  where
    quiet : Snapshot
    quiet = unpacked 0 [] 0

    first : List ℕ → ℕ
    first [] = 0
    first (b ∷ l) = b
