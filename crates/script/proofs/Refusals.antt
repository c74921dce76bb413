-- The refusals of a script in their order, one after another; what is left is the body.
-- Assumes nothing.
use Prim.Native.Nat.{ℕ, ◌-◌, ◌≤◌, ◌<◌}
use mathlib.Core.Path.{◌≡◌}
use mathlib.Core.List.{List}
use lib.ListN.{length, get_or, drop}
use borrow.Author.Tests.{lt-ltb, le-ltb, eq-eqb, ne_eqb}
use Rattle.refusal.specs.declared.Refusal.TheVariants.{AddressInvalid, Version, Shape, Size}
use Rattle.script.specs.Records.{records_of}
use Rattle.script.specs.Scripts.{refused, most, body_of, field_of, script_of}

module _ (address : ℕ) (s : List ℕ) where
  pub refused_address : 127 < address → script_of address s ≡ refused AddressInvalid
  unfolding script_of
  refused_address h = rw (lt-ltb 127 address h)

  module _ (known : address ≤ 127) where
    pub refused_short : length s < 3 → script_of address s ≡ refused Shape
    unfolding script_of
    refused_short h = rw (le-ltb 127 address known, lt-ltb (length s) 3 h)

    module _ (headed : 3 ≤ length s) where
      pub refused_version : (get_or s 0 0 ≡ 1 → ⊥) → script_of address s ≡ refused Version
      unfolding script_of
      refused_version h = rw (le-ltb 127 address known, le-ltb (length s) 3 headed, ne_eqb (get_or s 0 0) 1 h)

      module _ (version : get_or s 0 0 ≡ 1) where
        pub refused_field : most < field_of s → script_of address s ≡ refused Size
        unfolding script_of
        refused_field h = rw (le-ltb 127 address known, le-ltb (length s) 3 headed, version, lt-ltb most (field_of s) h)

        module _ (small : field_of s ≤ most) where
          pub refused_length : (field_of s ≡ length s - 3 → ⊥) → script_of address s ≡ refused Shape
          unfolding script_of
          refused_length h =
              rw (
                le-ltb 127 address known,
                le-ltb (length s) 3 headed,
                version,
                le-ltb most (field_of s) small,
                ne_eqb (field_of s) (length s - 3) h,
              )

          pub judged_by_body : field_of s ≡ length s - 3 → script_of address s ≡ body_of (records_of (drop 3 s))
          unfolding script_of
          judged_by_body h =
              rw (
                le-ltb 127 address known,
                le-ltb (length s) 3 headed,
                version,
                le-ltb most (field_of s) small,
                eq-eqb (field_of s) (length s - 3) h,
              )
