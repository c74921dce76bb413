-- Laws of accepted scripts: what is known of one, from the verdict on.
-- Assumes nothing.
use Rattle.std.specs.Prelude.{Ok, Err}
use Prim.Native.Nat.{ℕ, ◌≤◌}
use native.Mathlib.Omega.{arith}
use mathlib.Core.Path.{◌≡◌, refl}
use mathlib.Core.List.{List, []}
use mathlib.Core.Option.{Option, none, some}
use lib.ListN.{length, drop}
use Rattle.std.proofs.lemmas.Bool.Decides.{nat_tests}
use Rattle.bus.specs.Operations.{Operation}
use Rattle.refusal.specs.declared.Refusal.{Refusal}
use Rattle.script.specs.Records.{records_of}
use Rattle.script.specs.Scripts.{Script, asks, refused, read_total, most, body_of, script_of, told_of}

pub refused_by : (x : Script) (r : Refusal) → Err r ≡ told_of x → x ≡ refused r
refused_by (asks os) r e = cc
refused_by (refused q) r e = cc

-- the operations that a script asks for
abbrev pub operations_of : Script → List Operation
operations_of (asks os) = os
operations_of (refused r) = []

module _ (x : Script) (total : ℕ) (e : Ok total ≡ told_of x) where
  pub accepted_asks : x ≡ asks (operations_of x)
  accepted_asks = go x e where
    go : (y : Script) → Ok total ≡ told_of y → y ≡ asks (operations_of y)
    go (asks os) q = refl
    go (refused r) q = cc

  pub accepted_total : total ≡ read_total (operations_of x)
  accepted_total = go x e where
    go : (y : Script) → Ok total ≡ told_of y → total ≡ read_total (operations_of y)
    go (asks os) q = cc
    go (refused r) q = cc

body_asks : (body : Option (List Operation)) (os : List Operation) → body_of body ≡ asks os → (body ≡ some os) × (read_total os ≤ most)
unfolding body_of
body_asks none os e = cc
body_asks (some ps) os e = grind (arith, nat_tests)

module _ (address : ℕ) (s : List ℕ) (os : List Operation) where
  abbrev Facts : Type 0
  Facts = (address ≤ 127) × (3 ≤ length s) × (length s ≤ 4099) × (records_of (drop 3 s) ≡ some os) × (read_total os ≤ most)

  pub accepted_facts : script_of address s ≡ asks os → Facts
  unfolding script_of
  accepted_facts e = grind (arith, nat_tests, body_asks (records_of (drop 3 s)) os)
