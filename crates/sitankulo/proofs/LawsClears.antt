-- A law of pin changes, for citing.
-- Assumes nothing.
use native.Mathlib.Omega.{arith}
use Prim.Native.Nat.{◌≤◌}
use lib.ListN.{length}
use Rattle.bus_clear.specs.declared.Pins.{Pins}
use Rattle.bus_clear.specs.declared.Pins.TheVariants.{Still, SclLow, SclHigh, SdaHigh, SdaLowSclHigh, SclHighSdaLow, SclLowSdaHigh, SclHighSdaHigh}
use Rattle.bus_clear.specs.Pins.{change_bytes}

-- a poll makes two changes at most
pub few_changes : (p : Pins) → length (change_bytes p) ≤ 2
few_changes Still = omega arith
few_changes SclLow = omega arith
few_changes SclHigh = omega arith
few_changes SdaHigh = omega arith
few_changes SdaLowSclHigh = omega arith
few_changes SclHighSdaLow = omega arith
few_changes SclLowSdaHigh = omega arith
few_changes SclHighSdaHigh = omega arith
