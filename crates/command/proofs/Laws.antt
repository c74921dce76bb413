-- Laws of the meaning of a word, for citing: its value on each range of words.
-- Assumes nothing.
use Rattle.std.specs.Prelude.{Some}
use Prim.Native.Nat.{ℕ, ◌-◌, ◌≤◌, ◌<◌}
use native.Mathlib.Omega.{arith}
use mathlib.Core.Path.{◌≡◌, refl, sym}
use mathlib.Core.Bool.{Bool, true, false, true≢false}
use lib.Dec.{leb}
use borrow.Author.Tests.{le-leb, lt-leb, ne_eqb, leb-true}
use Rattle.command.specs.Word.{within, meaning_of}
use Rattle.command.specs.declared.Command.TheVariants.{Write, Read}

module _ (low high w : ℕ) where
  pub within_yes : low ≤ w → w ≤ high → within low high w ≡ true
  unfolding within
  within_yes h k = simp (le-leb low w h, le-leb w high k)

  pub within_above : low ≤ w → high < w → within low high w ≡ false
  unfolding within
  within_above h k = simp (le-leb low w h, lt-leb w high k)

  pub within_true : within low high w ≡ true → (low ≤ w) × (w ≤ high)
  unfolding within
  within_true e = go (leb low w) refl
    where
      go : (t : Bool) → leb low w ≡ t → (low ≤ w) × (w ≤ high)
      go true l = (leb-true low w l, leb-true w high (rw l at e))
      go false l = absurd (true≢false (sym (rw l at e)))

module _ (w : ℕ) where
  pub meaning_write : 0x0901 ≤ w → w ≤ 0x09FF → meaning_of w ≡ Some (Write (w - 0x0900))
  unfolding meaning_of
  meaning_write h k = simp (ne_eqb w 0x3000 (omega arith), within_yes 0x0901 0x09FF w h k)

  pub meaning_read : 0x1801 ≤ w → w ≤ 0x18FF → meaning_of w ≡ Some (Read (w - 0x1800))
  unfolding meaning_of
  meaning_read h k =
      simp (ne_eqb w 0x3000 (omega arith), within_above 0x0901 0x09FF w (omega arith) (omega arith), within_yes 0x1801 0x18FF w h k)
