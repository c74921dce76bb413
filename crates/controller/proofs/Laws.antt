-- Laws of the rules, for citing: what each command comes to at a place of a list.
-- Assumes nothing.
use Prim.Native.Nat.{ℕ, ◌+◌, ◌≤◌, ◌<◌}
use native.Mathlib.Omega.{arith}
use mathlib.Core.Path.{◌≡◌}
use mathlib.Core.Bool.{Bool, true, false}
use lib.ListN.{length, get_or, drop}
use borrow.Author.Tests.{le-leb, lt-leb, eq-eqb, ne_eqb}
use Rattle.command.specs.declared.Command.TheVariants.{Start, Write}
use Rattle.controller.specs.declared.Phase.{Phase}
use Rattle.controller.specs.declared.Phase.TheVariants.{Started}
use Rattle.controller.specs.Rules.{State, may_start, may_write, after_write, may_read, halts, goes_on, finishes, read_turn, closes, effect_of}

module _ (f : ℕ) (s : State) where
  pub start_barred : may_start s.phase ≡ false → effect_of f Start s ≡ halts
  unfolding effect_of
  start_barred e = simp e

  pub start_goes :
      may_start s.phase ≡ true → effect_of f Start s ≡ goes_on (record { phase = Started; fifo = s.fifo; received = s.received })
  unfolding effect_of
  start_goes e = simp e

  module _ (n : ℕ) where
    pub write_short : length s.fifo < n → effect_of f (Write n) s ≡ halts
    unfolding effect_of
    write_short h = simp (lt-leb n (length s.fifo) h)

    module _ (enough : n ≤ length s.fifo) where
      pub write_barred : may_write n (get_or s.fifo 0 0) s.phase ≡ false → effect_of f (Write n) s ≡ halts
      unfolding effect_of
      write_barred e = simp (le-leb n (length s.fifo) enough, e)

      pub write_goes :
          may_write n (get_or s.fifo 0 0) s.phase ≡ true
          → effect_of f (Write n) s
          ≡ goes_on (record { phase = after_write (get_or s.fifo 0 0) s.phase; fifo = drop n s.fifo; received = s.received })
      unfolding effect_of
      write_goes e = simp (le-leb n (length s.fifo) enough, e)

    module _ (after : Phase) where
      pub receive_barred : may_read s.phase ≡ false → read_turn f n after s ≡ halts
      receive_barred e = simp e

      pub receive_full : may_read s.phase ≡ true → f < s.received + n → read_turn f n after s ≡ halts
      receive_full e h = simp (e, lt-leb (s.received + n) f h)

      pub receive_goes :
          may_read s.phase ≡ true
          → s.received + n ≤ f
          → read_turn f n after s ≡ goes_on (record { phase = after; fifo = s.fifo; received = s.received + n })
      receive_goes e h = simp (e, le-leb (s.received + n) f h)

  module _ (allowed : Bool) (after : Phase) where
    pub close_barred : allowed ≡ false → closes allowed after s ≡ halts
    close_barred e = simp e

    pub close_filled : allowed ≡ true → 0 < length s.fifo → closes allowed after s ≡ halts
    close_filled e h = simp (e, ne_eqb (length s.fifo) 0 (λ z. omega arith))

    pub close_done : allowed ≡ true → length s.fifo ≤ 0 → closes allowed after s ≡ finishes after
    close_done e h = simp (e, eq-eqb (length s.fifo) 0 (omega arith))
