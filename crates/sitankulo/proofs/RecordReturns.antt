-- A record that is written is a record, and is read back as it was; whatever else the memory held.
-- Assumes nothing.
use Rattle.std.specs.Prelude.{Option, Some, None}
use Prim.Native.Nat.{ℕ, ◌<◌}
use native.Mathlib.Omega.{arith}
use mathlib.Core.Path.{◌≡◌, refl}
use mathlib.Core.Bool.{Bool, true, false, false≢true}
use mathlib.Core.List.{List, [], ◌∷◌, ◌++◌}
use lib.ListN.{length, drop}
use lib.Dec.{leb}
use borrow.Author.Tests.{le-leb}
use Rattle.transaction.specs.declared.Progress.{Progress}
use Rattle.wire.specs.Numbers.{time_bytes, time_at}
use Rattle.wire.proofs.Numbers.{time_returns}
use Rattle.sitankulo.specs.Records.{time_in, record_flags, record_bytes, progress_by, record_in, standing, agreeing, is_record}
use Rattle.sitankulo.specs.Transactions.{renewed}

-- the numbers fit their eight bytes
abbrev pub Fits : Progress → Type 0
Fits p = (p.place < 0x10000000000000000) × (time_in p.due < 0x10000000000000000) × (time_in p.fixed < 0x10000000000000000)

-- the flags say what they were made of
abbrev Said : Progress → Type 0
Said p =
    (agreeing (record_flags p) (time_in p.due) (time_in p.fixed) ≡ true)
    × (progress_by (record_flags p) p.place (time_in p.due) (time_in p.fixed) ≡ p)

abbrev whole : ℕ → Bool → Option ℕ → Bool → Bool → Option ℕ → Progress
whole place outstanding due polled failed fixed =
    record { place = place; outstanding = outstanding; due = due; polled = polled; failed = failed; fixed = fixed }

flags_return : (n : ℕ) (o : Bool) (d : Option ℕ) (p f : Bool) (x : Option ℕ) → standing (whole n o d p f x) ≡ true → Said (whole n o d p f x)
unfolding agreeing progress_by
flags_return n true d p true x e = absurd (false≢true e)
flags_return n true None true false None e = (refl, refl)
flags_return n true None true false (Some t) e = (refl, refl)
flags_return n true None false false None e = (refl, refl)
flags_return n true None false false (Some t) e = (refl, refl)
flags_return n true (Some u) true false None e = (refl, refl)
flags_return n true (Some u) true false (Some t) e = (refl, refl)
flags_return n true (Some u) false false None e = (refl, refl)
flags_return n true (Some u) false false (Some t) e = (refl, refl)
flags_return n false d true f x e = absurd (false≢true e)
flags_return n false (Some u) false f x e = absurd (false≢true e)
flags_return n false None false true None e = (refl, refl)
flags_return n false None false true (Some t) e = (refl, refl)
flags_return n false None false false None e = (refl, refl)
flags_return n false None false false (Some t) e = (refl, refl)

module _ (state : List ℕ) (p : Progress) (fits : Fits p) (stands : standing p ≡ true) where
  abbrev rest : List ℕ
  rest = drop 25 state

  abbrev place : List ℕ
  place = time_bytes p.place

  abbrev due : List ℕ
  due = time_bytes (time_in p.due)

  abbrev fixed : List ℕ
  fixed = time_bytes (time_in p.fixed)

  place_read : time_at (renewed state p) 1 ≡ p.place
  unfolding record_bytes
  place_read = time_returns (record_flags p ∷ []) p.place (due ++ (fixed ++ rest)) fits.0

  due_read : time_at (renewed state p) 9 ≡ time_in p.due
  unfolding record_bytes
  due_read = time_returns (record_flags p ∷ place) (time_in p.due) (fixed ++ rest) fits.1

  fixed_read : time_at (renewed state p) 17 ≡ time_in p.fixed
  unfolding record_bytes
  fixed_read = time_returns (record_flags p ∷ (place ++ due)) (time_in p.fixed) rest fits.2

  long : leb 25 (length (renewed state p)) ≡ true
  unfolding record_bytes
  long = le-leb 25 (length (renewed state p)) (omega arith)

  said : Said p
  said = flags_return p.place p.outstanding p.due p.polled p.failed p.fixed stands

  read : record_in (renewed state p) ≡ p
  unfolding record_bytes
  read = rw (place_read, due_read, fixed_read) said.1

  pub record_returns : (is_record (renewed state p) ≡ true) × (record_in (renewed state p) ≡ p)
  unfolding is_record record_bytes
  record_returns = (rw (read, long, due_read, fixed_read, said.0) stands, read)
