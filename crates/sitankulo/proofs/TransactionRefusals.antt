-- 01, "Numbers of refusals": "No refusal writes the read buffer or a lent output of the C layer", for the calls of a transaction.
-- Assumes nothing.
use Prim.Native.Nat.{ℕ, ◌%◌, ◌≤◌}
use native.Mathlib.Omega.{arith}
use mathlib.Core.Path.{◌≡◌, ◌∙◌}
use mathlib.Core.Bool.{false, cond}
use mathlib.Core.List.{List}
use lib.Seq.{paste}
use borrow.Author.Tests.{ne_eqb, le-leb, lt-leb}
use Rattle.list.specs.declared.CommandList.{CommandList}
use Rattle.transaction.specs.declared.Progress.{Progress}
use Rattle.wire.specs.Numbers.{word_bytes}
use Rattle.sitankulo.specs.Transactions.{number_in, succeeds, goes_ahead, tells, renewed}
use Rattle.sitankulo.proofs.Refusals.{Refusing}

module _ (r : ℕ) (given : Refusing r) where
  no_success : succeeds r ≡ false
  no_success = ne_eqb (r % 256) 0 (λ e. omega (arith, e, given.0))

  not_ahead : goes_ahead r ≡ false
  not_ahead = rw (ne_eqb r 0 not_ready, ne_eqb r 253 not_clear) where
    not_ready : r ≡ 0 → ⊥
    not_ready e = let z : 1 ≤ 0 % 256 = rw e at given.0 in omega arith

    not_clear : r ≡ 253 → ⊥
    not_clear e = let z : 253 % 256 ≤ 14 = rw e at given.1 in omega arith

  module _ (state state' : List ℕ) (p : Progress) where
    -- begin and abandoning
    pub record_refusal_writes_nothing : state' ≡ cond (goes_ahead r) (renewed state p) state → state' ≡ state
    record_refusal_writes_nothing e = e ∙ rw not_ahead

    pub next_refusal_writes_nothing :
        (l : CommandList) (words words' fifo fifo' : List ℕ)
        → state' ≡ cond (succeeds r) (renewed state p) state
        → words' ≡ cond (succeeds r) (paste words 0 (word_bytes l.words) 32) words
        → fifo' ≡ cond (succeeds r) (paste fifo 0 l.fifo l.count) fifo
        → (state' ≡ state) × (words' ≡ words) × (fifo' ≡ fifo)
    next_refusal_writes_nothing l words words' fifo fifo' e f g = (e ∙ rw no_success, f ∙ rw no_success, g ∙ rw no_success)

    -- "1 to 7 and 12 to 14 leave the state unchanged; 8 to 11 end the transaction."
    pub complete_refusal_writes_nothing :
        (landed buffer buffer' : List ℕ)
        → state' ≡ cond (tells (number_in r)) (renewed state p) state
        → buffer' ≡ cond (succeeds r) landed buffer
        → (number_in r ≤ 7 → state' ≡ state) × (12 ≤ number_in r → state' ≡ state) × (buffer' ≡ buffer)
    complete_refusal_writes_nothing landed buffer buffer' e f =
        let n = r % 256 in
        let some = ne_eqb n 0 (λ z. omega (arith, z, given.0)) in
        let told = ne_eqb n 255 (λ z. omega (arith, z, given.1)) in (
          (λ h. e ∙ rw (some, told, lt-leb 8 n (omega arith))),
          (λ h. e ∙ rw (some, told, le-leb 8 n (omega arith), lt-leb n 11 (omega arith))),
          f ∙ rw no_success,
        )
