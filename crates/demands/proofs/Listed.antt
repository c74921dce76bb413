-- What the builder hands over passes the inspector, from a phase that fits its flags; a read that continues and stops is refused.
-- Assumes nothing.
use Rattle.std.specs.Prelude.{Some, None}
use Prim.Native.Nat.{ℕ, ◌≤◌}
use native.Mathlib.Omega.{arith}
use mathlib.Core.Path.{◌≡◌}
use mathlib.Core.Bool.{Bool, true, cond, ◌&&◌}
use mathlib.Core.List.{List}
use lib.ListN.{length}
use Rattle.list.specs.Lists.{write_limit, read_limit, write_of, read_of}
use Rattle.list.proofs.Laws.{read_limit_most, write_listed, read_listed}
use Rattle.controller.specs.declared.Phase.{Phase}
use Rattle.controller.specs.declared.Phase.TheVariants.{Writing}
use Rattle.controller.specs.Model.{phase_number}
use Rattle.controller.specs.Verdicts.{inspected}
use Rattle.demands.specs.Built.{held, fits_write, fits_read, after_read, leaves}
use Rattle.demands.proofs.LawsBuilt.{held_list, write_fits}
use Rattle.demands.proofs.Passing.{builder_write_passes, builder_read_verdict}

module _ (f : ℕ) (some : 1 ≤ f) (small : f ≤ 255) (address : ℕ) (known : address ≤ 127) (start stop : Bool) (p : Phase) where
  pub listed_write_passes :
      (bytes : List ℕ)
      → length bytes ≤ write_limit f address start
      → fits_write start p ≡ true
      → inspected f (held (write_of f address bytes start stop).list) (phase_number p) ≡ Some (leaves stop Writing)
  listed_write_passes bytes fits h =
      rw (write_listed f address known start stop bytes fits, held_list)
      (builder_write_passes f small address start p bytes stop (write_fits f some address start bytes fits) h)

  pub listed_read_verdict :
      (n : ℕ) (continues : Bool)
      → 1 ≤ n
      → n ≤ read_limit f continues
      → fits_read start p ≡ true
      → inspected f (held (read_of f address n start stop continues).list) (phase_number p)
      ≡ cond (continues && stop) None (Some (leaves stop (after_read continues)))
  listed_read_verdict n continues n-some fits h =
      rw (read_listed f address known start stop n continues n-some fits, held_list)
      (builder_read_verdict f small address start p n n-some (omega (arith, read_limit_most f continues)) h stop continues)
