-- Laws of a `for` over a lent tape, at most n samples of it, for citing: which sample a turn has, and how many turns there were.
-- Assumes nothing.
use Prim.Native.Nat.{ℕ, ◌<◌, min}
use native.Mathlib.Omega.{arith}
use mathlib.Core.Path.{◌≡◌, ap, ◌∙◌}
use mathlib.Core.List.{List}
use lib.ListN.{length, get_or, take}
use denote.Ref.{Bor}
use Rattle.std.specs.declared.iter.Take.{Take}
use Rattle.std.specs.declared.iter.Zip.{Zip}
use Rattle.std.specs.declared.slice.Iter.{Iter}
use Rattle.std.specs.Prelude.{Option, Some, None}
use Rattle.std.specs.List.{zip}
use Rattle.std.specs.Iterator.{Yields}
use Rattle.std.specs.Iterator.Adapters.{zip_first, zip_second, take_source, take_count, take_steps}
use Rattle.std.specs.Slice.Iter.{iter_rest}
use Rattle.std.proofs.iter.Yields.{fronts}
use Rattle.std.proofs.lemmas.List.{length-take, get_or-take, get_or_default}
use Rattle.std.proofs.lemmas.Slice.Zip.{length-zip, get_or-zip}
use Rattle.std.proofs.lemmas.Iterator.{YieldsList, zips, YieldsList-from_slice, YieldsList-from_zip, YieldsList-from_take}
use Rattle.std.proofs.lemmas.Iterator.Consumers.{YieldsList-turn, YieldsList-end}

abbrev Samples : Type 0
Samples = Take (Zip (Iter ℕ) (Iter ℕ))

abbrev Lent : Type 0
Lent = Bor ℕ × Bor ℕ

abbrev pub steps : Samples → Option Lent → Samples → Type 0
steps = take_steps (zips fronts fronts)

abbrev read : Lent → ℕ × ℕ
read p = (p.0.now, p.1.now)

-- the samples as lent, and what a loop over them has yielded
module _ (clocks levels : List ℕ) (n : ℕ) where
  tape_length : length (take n (zip clocks levels)) ≡ min n (min (length clocks) (length levels))
  tape_length = length-take n (zip clocks levels) ∙ ap (min n) (length-zip clocks levels)

  -- a turn, after k turns
  module _
      (k : ℕ) (whole left after : Samples) (yielded : List Lent) (next : Option Lent) (is_k : k ≡ length yielded)
      (is_clocks : iter_rest (zip_first (take_source whole)) ≡ clocks) (is_levels : iter_rest (zip_second (take_source whole)) ≡ levels)
      (is_n : take_count whole ≡ n) (so_far : Yields steps whole yielded left) (stepped : steps left next after)
    where
      road : YieldsList steps read whole (take n (zip clocks levels))
      road =
          YieldsList-from_take n
          (YieldsList-from_zip (YieldsList-from_slice clocks is_clocks) (YieldsList-from_slice levels is_levels)) is_n

      pub turn :
          (s : Lent)
          → next ≡ Some s
          → (k < n) × (k < length clocks) × (k < length levels) × (s.0.now ≡ get_or clocks k 0) × (s.1.now ≡ get_or levels k 0)
      turn s is =
          let t = YieldsList-turn road yielded left so_far next after s is stepped in
          let within : k < min n (min (length clocks) (length levels)) = omega (arith, tape_length, t.0) in
          let in_n : k < n = omega arith in
          let in_clocks : k < length clocks = omega arith in
          let in_levels : k < length levels = omega arith in
          let e : read s ≡ (get_or clocks k s.0.now, get_or levels k s.1.now) =
          rw (← is_k) at t.1 ∙ get_or-take n (zip clocks levels) k (read s) in_n
          ∙ get_or-zip clocks levels k (read s) in_clocks in_levels in (
            in_n,
            in_clocks,
            in_levels,
            ap (λ (p : ℕ × ℕ). p.0) e ∙ get_or_default clocks k s.0.now 0 in_clocks,
            ap (λ (p : ℕ × ℕ). p.1) e ∙ get_or_default levels k s.1.now 0 in_levels,
          )

      pub over : next ≡ None → k ≡ min n (min (length clocks) (length levels))
      over is = is_k ∙ (YieldsList-end road yielded left so_far next after is stepped).1 ∙ tape_length
