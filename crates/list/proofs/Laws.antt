-- Laws of command lists, for citing: the limits, the FIFO bytes with start (opened) and without (more), and what is answered where no
-- refusal is due.
-- Assumes nothing.
use Prim.Native.Nat.{ℕ, zero, suc, ◌+◌, ◌-◌, ◌*◌, ◌≤◌}
use native.Mathlib.Nat.{add-zero}
use native.Mathlib.Omega.{arith}
use mathlib.Core.Path.{◌≡◌, refl}
use mathlib.Core.Bool.{Bool, true, false}
use mathlib.Core.List.{List, [], ◌∷◌}
use lib.ListN.{length}
use borrow.Author.Tests.{le-ltb, ne_eqb}
use Rattle.bus.specs.Events.{to_sensor, from_sensor}
use Rattle.bus.specs.Traffic.{opening}
use Rattle.command.specs.declared.Command.{Command}
use Rattle.command.specs.declared.Command.TheVariants.{End}
use Rattle.list.specs.Lists.{sent_bytes, address_bytes, write_limit, read_limit, counted, closing, write_fifo, write_commands, read_fifo, read_commands, listed, write_of, read_of}

-- the address byte, by direction
module _ (address : ℕ) where
  pub address_write : address_bytes address to_sensor ≡ address * 2 ∷ []
  unfolding sent_bytes opening
  address_write = rw add-zero

  pub address_read : address_bytes address from_sensor ≡ (address * 2 + 1) ∷ []
  unfolding sent_bytes opening
  address_read = refl

-- the limits
pub write_limit_opened : (f address : ℕ) → write_limit f address true ≡ f - 1
write_limit_opened f address = rw address_write

pub write_limit_most : (f address : ℕ) (start : Bool) → write_limit f address start ≤ f
write_limit_most f address true = omega (arith, write_limit_opened f address)
write_limit_most f address false = omega arith

pub read_limit_most : (f : ℕ) (continues : Bool) → read_limit f continues ≤ f
read_limit_most f true = omega arith
read_limit_most f false = omega arith

-- the FIFO bytes
module _ (address : ℕ) where
  pub write_opened_fifo : (bytes : List ℕ) → write_fifo address bytes true ≡ address * 2 ∷ bytes
  unfolding write_fifo
  write_opened_fifo bytes = rw address_write

  pub write_more_fifo : (bytes : List ℕ) → write_fifo address bytes false ≡ bytes
  unfolding write_fifo
  write_more_fifo bytes = refl

  pub read_opened_fifo : read_fifo address true ≡ (address * 2 + 1) ∷ []
  unfolding read_fifo
  read_opened_fifo = address_read address

  pub read_more_fifo : read_fifo address false ≡ []
  unfolding read_fifo
  read_more_fifo = refl

-- a command with a count, where that is above 0
pub counted_some : (command : ℕ → Command) (n : ℕ) → 1 ≤ n → counted command n ≡ command n ∷ []
counted_some command zero h = absurd (omega arith)
counted_some command (suc n) h = refl

-- a list that does not stop ends with END alone
pub closing_end : (start : Bool) → closing start false ≡ End ∷ []
closing_end true = refl
closing_end false = refl

-- what is answered where no refusal is due
module _ (f address : ℕ) (known : address ≤ 127) (start stop : Bool) where
  pub write_listed :
      (bytes : List ℕ)
      → length bytes ≤ write_limit f address start
      → write_of f address bytes start stop ≡ listed (write_commands address bytes start stop) (write_fifo address bytes start)
  unfolding write_of
  write_listed bytes h = rw (le-ltb 127 address known, le-ltb (write_limit f address start) (length bytes) h)

  pub read_listed :
      (n : ℕ) (continues : Bool)
      → 1 ≤ n
      → n ≤ read_limit f continues
      → read_of f address n start stop continues ≡ listed (read_commands address n start stop continues) (read_fifo address start)
  unfolding read_of
  read_listed n continues some h =
      rw (le-ltb 127 address known, ne_eqb n 0 (omega arith), le-ltb (read_limit f continues) n h)
