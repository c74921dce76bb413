-- Which of the builder's lists the inspector passes, from a phase that fits their flags: all but a read that continues and stops.
-- Assumes nothing.
use Rattle.std.specs.Prelude.{Some, None}
use Prim.Native.Nat.{ℕ, ◌-◌, ◌≤◌}
use mathlib.Core.Path.{◌≡◌, refl, ap, ◌∙◌}
use mathlib.Core.Bool.{Bool, true, false, cond, ◌&&◌}
use mathlib.Core.List.{List}
use lib.ListN.{length}
use Rattle.bus.specs.Events.{ack, nack, to_sensor, from_sensor}
use Rattle.list.specs.Lists.{address_bytes, write_fifo}
use Rattle.controller.specs.declared.Phase.{Phase}
use Rattle.controller.specs.declared.Phase.TheVariants.{Writing}
use Rattle.controller.specs.Model.{Sensor, Run, done, phase_number}
use Rattle.controller.specs.Verdicts.{willing, verdict_of, inspected}
use Rattle.controller.proofs.LawsRuns.{put_willing, get_willing}
use Rattle.demands.specs.Built.{write_list, read_list, opens, takes_in, shuts, fits_write, fits_read, after_read, leaves}
use Rattle.demands.proofs.LawsBuilt.{in_its_phase}
use Rattle.demands.proofs.Built.{built_write, built_read, built_read_stuck}

-- the blocks against the willing sensor
opens_willing : (start : Bool) (address : List ℕ) (next : Sensor → Run) → verdict_of (opens start address willing next) ≡ verdict_of (next willing)
opens_willing true address next = put_willing verdict_of (λ e r. refl) address next
opens_willing false address next = refl

takes_willing : (continues : Bool) (n : ℕ) (next : Sensor → Run) → verdict_of (takes_in continues n willing next) ≡ verdict_of (next willing)
takes_willing true n next = get_willing verdict_of (λ e r. refl) ack n next
takes_willing false n next =
    get_willing verdict_of (λ e r. refl) ack (n - 1) _ ∙ get_willing verdict_of (λ e r. refl) nack 1 next

shuts_willing : (stop : Bool) (p : Phase) → verdict_of (shuts stop p willing done) ≡ Some (leaves stop p)
shuts_willing true p = refl
shuts_willing false p = refl

module _ (f : ℕ) (small : f ≤ 255) (address : ℕ) (start : Bool) (p : Phase) where
  -- every write passes
  pub builder_write_passes :
      (bytes : List ℕ) (stop : Bool)
      → length (write_fifo address bytes start) ≤ f
      → fits_write start p ≡ true
      → inspected f (write_list address bytes start stop) (phase_number p) ≡ Some (leaves stop Writing)
  unfolding inspected
  builder_write_passes bytes stop n h =
      ap verdict_of (in_its_phase p _ ∙ built_write f small done address bytes start stop p willing n h)
      ∙ opens_willing start (address_bytes address to_sensor) _
      ∙ put_willing verdict_of (λ e r. refl) bytes _
      ∙ shuts_willing stop Writing

  module _ (n : ℕ) (some : 1 ≤ n) (fits : n ≤ f) (h : fits_read start p ≡ true) where
    read_passes :
        (stop continues : Bool)
        → (continues && stop) ≡ false
        → inspected f (read_list address n start stop continues) (phase_number p) ≡ Some (leaves stop (after_read continues))
    unfolding inspected
    read_passes stop continues c =
        ap verdict_of (in_its_phase p _ ∙ built_read f small done address n start stop continues p willing some fits h c)
        ∙ opens_willing start (address_bytes address from_sensor) _
        ∙ takes_willing continues n _
        ∙ shuts_willing stop (after_read continues)

    -- a read passes exactly where it does not both continue and stop
    pub builder_read_verdict :
        (stop continues : Bool)
        → inspected f (read_list address n start stop continues) (phase_number p)
        ≡ cond (continues && stop) None (Some (leaves stop (after_read continues)))
    unfolding inspected
    builder_read_verdict true true =
        ap verdict_of (in_its_phase p _ ∙ built_read_stuck f small done address n start p willing some fits h)
        ∙ opens_willing start (address_bytes address from_sensor) _
        ∙ takes_willing true n _
    builder_read_verdict true false = read_passes true false refl
    builder_read_verdict false true = read_passes false true refl
    builder_read_verdict false false = read_passes false false refl
