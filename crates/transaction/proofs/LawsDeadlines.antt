-- Laws of time sums: they are told where 64 bits hold them.
-- Assumes nothing.
use Rattle.std.specs.Prelude.{Option, None, Some, Ok, Err}
use Rattle.std.specs.Option.{SomeIff, ok_or}
use Rattle.refusal.specs.declared.Refusal.{Refusal}
use Rattle.refusal.specs.declared.Refusal.TheVariants.{ClockRange}
use Prim.Native.Nat.{ℕ, ◌+◌, ◌^◌, ◌≤◌, ◌<◌}
use native.Mathlib.Omega.{arith}
use mathlib.Core.Path.{◌≡◌}
use borrow.Author.Tests.{lt-ltb, le-ltb}
use Rattle.transaction.specs.Deadlines.{time_of}

abbrev last : ℕ
last = 0xFFFFFFFFFFFFFFFF

told : (sum : ℕ) → sum ≤ last → Ok (Some sum) ≡ time_of sum
unfolding time_of
told sum h = rw (le-ltb last sum h)

out : (sum : ℕ) → last < sum → (Err ClockRange) ≡ time_of sum
unfolding time_of
out sum h = rw (lt-ltb last sum h)

-- what is summed with checks, and refused with `ClockRange`
abbrev Checked : Option ℕ → ℕ → Type 0
Checked o sum = SomeIff o (sum < 2 ^ 64) sum

pub checked_told : (o : Option ℕ) (sum t : ℕ) → Checked o sum → ok_or o ClockRange ≡ Ok t → (t ≡ sum) × (sum ≤ last)
checked_told None sum t h e = absurd (cc)
checked_told (Some x) sum t h e = (cc, omega (arith, h.0))

pub checked_out :
    (o : Option ℕ) (sum : ℕ) (r : Refusal)
    → Checked o sum
    → ok_or o ClockRange ≡ Err r
    → (r ≡ ClockRange) × (last < sum)
checked_out None sum r h e = (cc, omega (arith, h))
checked_out (Some x) sum r h e = absurd (cc)

pub sum_told : (o : Option ℕ) (sum t : ℕ) → Checked o sum → ok_or o ClockRange ≡ Ok t → Ok (Some t) ≡ time_of sum
sum_told o sum t h e = let k = checked_told o sum t h e in rw k.0 (told sum k.1)

pub sum_out : (o : Option ℕ) (sum : ℕ) (r : Refusal) → Checked o sum → ok_or o ClockRange ≡ Err r → Err r ≡ time_of sum
sum_out o sum r h e = let k = checked_out o sum r h e in rw k.0 (out sum k.1)

-- a product that is out of range puts the sum out of range
pub product_out :
    (o : Option ℕ) (time product : ℕ) (r : Refusal)
    → Checked o product
    → ok_or o ClockRange ≡ Err r
    → Err r ≡ time_of (time + product)
product_out o time product r h e =
    let k = checked_out o product r h e in
    let more : last < time + product = omega (arith, k.1) in
    rw k.0 (out (time + product) more)
