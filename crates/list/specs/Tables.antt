-- The words of a list while it is built.
use Rattle.std.specs.Prelude.{◌≡◌, ℕ, ◌≤◌, List, take}
use Rattle.list.specs.Lists.{padded}

-- of so many cells the first n are set, and the others are 0
pub record Filled (size n : ℕ) (cells : List ℕ) : Type 0 where
  pub within : n ≤ size
  pub unused : cells ≡ padded size (take n cells)
