-- Laws of a record in memory: what is put into it, flags first, is all of it.
-- Assumes nothing.
use Prim.Native.Nat.{ℕ, ◌+◌, ◌≤◌}
use native.Mathlib.Omega.{arith}
use mathlib.Core.Path.{◌≡◌, refl, sym, ◌∙◌}
use mathlib.Core.Bool.{true, cond}
use mathlib.Core.List.{List, [], ◌∷◌, ◌++◌, append_assoc, append-nil}
use lib.ListN.{length, take, drop, set, length-drop, drop_of_length-le}
use lib.Seq.{paste, length-take-le, drop-drop}
use lib.Dec.{leb}
use borrow.Author.Tests.{le-leb, leb-true}
use Rattle.transaction.specs.declared.Progress.{Progress}
use Rattle.wire.specs.Numbers.{laid, times_bytes}
use Rattle.sitankulo.proofs.LawsTests.{and_left}
use Rattle.sitankulo.specs.Records.{time_in, record_flags, record_bytes, is_record}

-- what is put into a part, as the whole
pub part_put :
    (l part vs : List ℕ) (at n : ℕ)
    → at + n ≤ length l
    → part ≡ cond (leb n (length (take n (drop at l)))) (paste (take n (drop at l)) 0 vs n) (take n (drop at l))
    → take at l ++ (part ++ drop n (drop at l)) ≡ paste l at vs n
part_put l part vs at n h e =
    let there : n ≤ length (drop at l) = rw (length-drop at l) (omega arith) in
    let size : length (take n (drop at l)) ≡ n = length-take-le n (drop at l) there in
    let full : part ≡ take n vs ++ drop (0 + n) (take n (drop at l)) = e ∙ rw (le-leb n (length (take n (drop at l))) (omega (arith, size))) refl in
    rw (full, drop_of_length-le (take n (drop at l)) {i = 0 + n} (omega (arith, size)), append-nil (take n vs), drop-drop n at l)
    (sym (append_assoc (take at l) (take n vs) (drop (at + n) l)))

-- a whole record: its flags, and then its place and its two times
pub encoded :
    (p : Progress) (d after : List ℕ) (flags due fixed : ℕ)
    → 25 ≤ length d
    → flags ≡ record_flags p
    → due ≡ time_in p.due
    → fixed ≡ time_in p.fixed
    → after ≡ paste (set d 0 flags) 1 (times_bytes (p.place ∷ due ∷ fixed ∷ [])) 24
    → after ≡ paste d 0 (record_bytes p) 25
unfolding record_bytes laid
encoded p [] after flags due fixed long flags-are due-is fixed-is e = absurd (omega arith)
encoded p (x ∷ d) after flags due fixed long flags-are due-is fixed-is e = rw (← flags-are, ← due-is, ← fixed-is) e

-- a record is long enough to be written again
pub record_long : (state : List ℕ) → is_record state ≡ true → 25 ≤ length state
unfolding is_record
record_long state e = leb-true 25 (length state) (and_left (leb 25 (length state)) _ e)
