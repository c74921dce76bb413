-- Our bus clear does what K10 says, and each wrong one does not.
-- Assumes nothing.
use Prim.Native.Nat.{ℕ, zero, suc}
use native.Mathlib.Omega.{arith}
use mathlib.Core.Path.{◌≡◌, refl}
use mathlib.Core.Bool.{false}
use mathlib.Core.List.{[], ◌∷◌}
use Rattle.bus_clear.specs.declared.State.TheVariants.{Idle}
use Rattle.bus_clear.specs.declared.BusClear.{BusClear}
use Rattle.bus_clear.specs.declared.run.Terms.{Terms}
use Rattle.bus_clear.specs.Clear.{step_of}
use Rattle.bus_clear.specs.Runs.{tape_of, poll_all}
use Rattle.demands.specs.Clears.{polled_with, made_with, sampled, rises, falls, ClearsTheBus, moves_no_pin, first_step_only, our_run, CountsPolls, made_up}

pub step_clears_the_bus : ClearsTheBus step_of
unfolding step_of polled_with made_with sampled rises falls
step_clears_the_bus = record { not_before = refl; idle = refl; nine_falls = refl; ten_rises = refl }

pub no_pin_refuted : ClearsTheBus moves_no_pin → ⊥
unfolding step_of made_with sampled falls
no_pin_refuted clears = let z : ◌≡◌ {A = ℕ} 0 9 = clears.nine_falls in omega arith

pub first_step_refuted : ClearsTheBus first_step_only → ⊥
unfolding step_of made_with sampled rises
first_step_refuted clears = let z : ◌≡◌ {A = ℕ} 1 10 = clears.ten_rises in omega arith

-- what `run` reports is the number of steps that the definition takes on the tape
pub run_counts : CountsPolls our_run
run_counts t clocks levels c room h = simp h

abbrev idle : BusClear
idle = record { state = Idle; wait = 0 }

abbrev terms : ℕ → Terms
terms budget = record { pins = false; reset = false; start = 0; limit = 0; budget = budget }

-- a number that is right for no poll is wrong for one
pub made_up_refuted : (n : ℕ) → CountsPolls (made_up n) → ⊥
unfolding poll_all tape_of step_of
made_up_refuted zero counts =
    let z : ◌≡◌ {A = ℕ} 0 1 = counts (terms 1) (0 ∷ []) (0 ∷ []) idle 0 refl in omega arith
made_up_refuted (suc n) counts =
    let z : suc n ≡ 0 = counts (terms 0) [] [] idle 0 refl in omega arith
