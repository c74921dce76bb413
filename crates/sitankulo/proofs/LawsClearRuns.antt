-- A law of a clear in lent memory, for citing.
-- Assumes nothing.
use Rattle.std.specs.Prelude.{Option, Some, None}
use Prim.Native.Nat.{ℕ, ◌≤◌}
use native.Mathlib.Omega.{arith}
use mathlib.Core.Path.{◌≡◌}
use mathlib.Core.List.{List}
use lib.ListN.{length}
use lib.Dec.{leb}
use borrow.Author.Tests.{leb-true}
use Rattle.bus_clear.specs.declared.BusClear.{BusClear}
use Rattle.sitankulo.specs.ClearLayout.{decoded_of}
use Rattle.sitankulo.proofs.LawsTests.{by_test}

-- a clear that is read back has its ten bytes
abbrev Long : List ℕ → Option BusClear → Type 0
Long bytes d = (c : BusClear) → d ≡ Some c → 10 ≤ length bytes

pub held_long : (bytes : List ℕ) → Long bytes (decoded_of bytes)
unfolding decoded_of
held_long bytes =
    by_test (Long bytes) (leb 10 (length bytes)) _ None (λ e c h. leb-true 10 (length bytes) e)
    (λ e c h. let z : ◌≡◌ {A = ℕ} 0 1 = cc in absurd (omega arith))
