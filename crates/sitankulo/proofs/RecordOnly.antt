-- Nothing else is a record: bytes that are taken for one are those that would be written for it.
-- Assumes nothing.
use Prim.Native.Nat.{ℕ, zero, suc, ◌+◌, ◌*◌, ◌/◌, ◌%◌, ◌≤◌, ◌<◌}
use native.Mathlib.Nat.{add-zero, add_comm, div-div-eq-div-mul, div-add-mod, div-eq_of_lt, mul-add-div_right, add-mul-mod_self_right, mod-lt, mod-eq_of_lt}
use native.Mathlib.Omega.{arith}
use mathlib.Core.Path.{◌≡◌, refl, sym, ap, ◌∙◌}
use mathlib.Core.Bool.{Bool, true, false, ◌&&◌}
use mathlib.Core.List.{List, [], ◌∷◌, ◌++◌}
use lib.ListN.{length, take, drop, get_or, take-append-drop, length-drop}
use lib.Seq.{get_or-drop, take-take, take-add, drop-drop}
use lib.Dec.{leb, ltb, eqb}
use borrow.Author.Tests.{leb-true, ltb-true, eqb-true}
use Rattle.outcome.specs.Packed.{bit_of}
use Rattle.wire.specs.Numbers.{four_bytes, time_bytes, word_at, time_at}
use Rattle.sitankulo.specs.Records.{timed, time_in, due_by, weighed, record_flags, record_bytes, progress_by, record_in, standing, zero_unless, agreeing, is_record}
use Rattle.sitankulo.proofs.LawsTests.{and_left, and_right}
use Rattle.sitankulo.specs.Transactions.{renewed}

-- memory of bytes
abbrev pub Bytes : List ℕ → Type 0
Bytes l = (i : ℕ) → get_or l i 0 < 256

-- NUMBERS
-- a number's last digit, and what stands before it
module _ (q r m : ℕ) (h : r < m) where
  before : (q * m + r) / m ≡ q
  before = mul-add-div_right (omega arith) q r ∙ rw (div-eq_of_lt h, add-zero q)

  last : (q * m + r) % m ≡ r
  last = rw (add_comm (q * m) r) (add-mul-mod_self_right r q m ∙ mod-eq_of_lt h)

module _ (a b c d : ℕ) (ha : a < 256) (hb : b < 256) (hc : c < 256) (hd : d < 256) where
  abbrev word : ℕ
  word = a * 0x1000000 + b * 0x10000 + c * 0x100 + d

  four : four_bytes word ≡ a ∷ b ∷ c ∷ d ∷ []
  four =
      let y = a * 256 + b in
      let x = y * 256 + c in
      let w : word ≡ x * 256 + d = omega arith in
      let first : (x * 256 + d) / 256 ≡ x = before x d 256 hd in
      let second : (x * 256 + d) / 0x10000 ≡ y
      = sym (div-div-eq-div-mul (x * 256 + d) 256 256) ∙ ap (λ (m : ℕ). m / 256) first ∙ before y c 256 hc in
      let third : (x * 256 + d) / 0x1000000 ≡ a
      = sym (div-div-eq-div-mul (x * 256 + d) 0x10000 256) ∙ ap (λ (m : ℕ). m / 256) second ∙ before a b 256 hb in
      rw (w, third, second, first, mod-eq_of_lt ha, last a b 256 hb, last y c 256 hc, last x d 256 hd)

  low : word < 0x100000000
  low = omega arith

-- eight bytes of memory, read as a number and written again
first_eight :
    (l : List ℕ)
    → 8 ≤ length l
    → take 8 l
    ≡ get_or l 0 0 ∷ get_or l 1 0 ∷ get_or l 2 0 ∷ get_or l 3 0 ∷ get_or l 4 0 ∷ get_or l 5 0 ∷ get_or l 6 0 ∷ get_or l 7 0 ∷ []
first_eight [] h = absurd (omega arith)
first_eight (a ∷ []) h = absurd (omega arith)
first_eight (a ∷ b ∷ []) h = absurd (omega arith)
first_eight (a ∷ b ∷ c ∷ []) h = absurd (omega arith)
first_eight (a ∷ b ∷ c ∷ d ∷ []) h = absurd (omega arith)
first_eight (a ∷ b ∷ c ∷ d ∷ e ∷ []) h = absurd (omega arith)
first_eight (a ∷ b ∷ c ∷ d ∷ e ∷ f ∷ []) h = absurd (omega arith)
first_eight (a ∷ b ∷ c ∷ d ∷ e ∷ f ∷ g ∷ []) h = absurd (omega arith)
first_eight (a ∷ b ∷ c ∷ d ∷ e ∷ f ∷ g ∷ i ∷ l) h = refl

module _ (l : List ℕ) (bytes : Bytes l) where
  abbrev byte : ℕ → ℕ
  byte i = get_or l i 0

  word_back : (at : ℕ) → four_bytes (word_at l at) ≡ byte at ∷ byte (at + 1) ∷ byte (at + 2) ∷ byte (at + 3) ∷ []
  unfolding word_at
  word_back at = four (byte at) (byte (at + 1)) (byte (at + 2)) (byte (at + 3)) (bytes at) (bytes (at + 1)) (bytes (at + 2)) (bytes (at + 3))

  word_low : (at : ℕ) → word_at l at < 0x100000000
  unfolding word_at
  word_low at = low (byte at) (byte (at + 1)) (byte (at + 2)) (byte (at + 3)) (bytes at) (bytes (at + 1)) (bytes (at + 2)) (bytes (at + 3))

  eight :
      (at : ℕ)
      → at + 8 ≤ length l
      → take 8 (drop at l)
      ≡ byte at ∷ byte (at + 1) ∷ byte (at + 2) ∷ byte (at + 3) ∷ byte (at + 4) ∷ byte (at + 5) ∷ byte (at + 6) ∷ byte (at + 7) ∷ []
  eight at h =
      let there : 8 ≤ length (drop at l) = rw length-drop (omega arith) in
      first_eight (drop at l) there
      ∙ rw (get_or-drop at l 0 0, get_or-drop at l 1 0, get_or-drop at l 2 0, get_or-drop at l 3 0, get_or-drop at l 4 0, get_or-drop at l 5 0, get_or-drop at l 6 0, get_or-drop at l 7 0, add-zero at)

  time_back : (at : ℕ) → at + 8 ≤ length l → time_bytes (time_at l at) ≡ take 8 (drop at l)
  unfolding time_at
  time_back at h =
      let high = before (word_at l at) (word_at l (at + 4)) 0x100000000 (word_low (at + 4)) in
      let small = last (word_at l at) (word_at l (at + 4)) 0x100000000 (word_low (at + 4)) in
      let five : at + 4 + 1 ≡ at + 5 = omega arith in
      let six : at + 4 + 2 ≡ at + 6 = omega arith in
      let seven : at + 4 + 3 ≡ at + 7 = omega arith in
      ap (λ (m : ℕ). four_bytes m ++ four_bytes (time_at l at % 0x100000000)) high
      ∙ ap (λ (m : ℕ). four_bytes (word_at l at) ++ four_bytes m) small
      ∙ ap (λ (x : List ℕ). x ++ four_bytes (word_at l (at + 4))) (word_back at)
      ∙ ap (λ (x : List ℕ). byte at ∷ byte (at + 1) ∷ byte (at + 2) ∷ byte (at + 3) ∷ x) (word_back (at + 4))
      ∙ rw (five, six, seven) (sym (eight at h))

-- FLAGS
weight : (n w : ℕ) → n < 2 → weighed (eqb n 1) w ≡ n * w
weight zero w h = omega arith
weight (suc zero) w h = omega arith
weight (suc (suc n)) w h = absurd (omega arith)

bits : (n : ℕ) → n < 32 → weighed (eqb (n % 2) 1) 1 + weighed (bit_of 2 n) 2 + weighed (bit_of 4 n) 4 + weighed (bit_of 8 n) 8 + weighed (bit_of 16 n) 16 ≡ n
bits n h =
    let a = n / 2 in
    let b = a / 2 in
    let c = b / 2 in
    let d = c / 2 in
    let b-is : n / 4 ≡ b = sym (div-div-eq-div-mul n 2 2) in
    let c-is : n / 8 ≡ c = sym (div-div-eq-div-mul n 4 2) ∙ ap (λ (m : ℕ). m / 2) b-is in
    let d-is : n / 16 ≡ d = sym (div-div-eq-div-mul n 8 2) ∙ ap (λ (m : ℕ). m / 2) c-is in
    let small : d < 2 = omega (arith, div-add-mod n 2, div-add-mod a 2, div-add-mod b 2, div-add-mod c 2) in
    rw (b-is, c-is, d-is, weight (n % 2) 1 (mod-lt n (omega arith)), weight (a % 2) 2 (mod-lt a (omega arith)), weight (b % 2) 4 (mod-lt b (omega arith)), weight (c % 2) 8 (mod-lt c (omega arith)), weight (d % 2) 16 (mod-lt d (omega arith)), mod-eq_of_lt small)
    (omega (arith, div-add-mod n 2, div-add-mod a 2, div-add-mod b 2, div-add-mod c 2))

timed_back : (t : Bool) (x : ℕ) → timed (due_by t x) ≡ t
timed_back true x = refl
timed_back false x = refl

time_in_back : (t : Bool) (x : ℕ) → zero_unless t x ≡ true → time_in (due_by t x) ≡ x
time_in_back true x e = refl
time_in_back false x e = sym (eqb-true x 0 e)

-- A RECORD
both : (a b : Bool) → (a && b) ≡ true → (a ≡ true) × (b ≡ true)
both a b e = (and_left a b e, and_right a b e)

one : (l : List ℕ) → 1 ≤ length l → take 1 l ≡ get_or l 0 0 ∷ []
one [] h = absurd (omega arith)
one (x ∷ l) h = refl

assembled :
    {f g : ℕ} {a b c d x y : List ℕ}
    → f ≡ g
    → a ≡ b
    → c ≡ d
    → x ≡ y
    → ◌≡◌ {A = List ℕ} (f ∷ (a ++ (c ++ x))) (g ∷ (b ++ (d ++ y)))
assembled p q r s = cc

module _ (state : List ℕ) (bytes : Bytes state) (is : is_record state ≡ true) where
  abbrev flags : ℕ
  flags = get_or state 0 0

  abbrev due : ℕ
  due = time_at state 9

  abbrev fixed : ℕ
  fixed = time_at state 17

  fields : (25 ≤ length state) × (flags < 32) × (zero_unless (bit_of 8 flags) due ≡ true) × (zero_unless (bit_of 16 flags) fixed ≡ true)
  unfolding is_record agreeing
  fields =
      let whole = both (leb 25 (length state)) (agreeing flags due fixed && standing (record_in state)) is in
      let agrees = (both (agreeing flags due fixed) (standing (record_in state)) whole.1).0 in
      let known = both (ltb flags 32) (zero_unless (bit_of 8 flags) due && zero_unless (bit_of 16 flags) fixed) agrees in
      let times = both (zero_unless (bit_of 8 flags) due) (zero_unless (bit_of 16 flags) fixed) known.1 in
      (leb-true 25 (length state) whole.0, ltb-true flags 32 known.0, times.0, times.1)

  long : 25 ≤ length state
  long = fields.0

  parts : take 25 state ≡ flags ∷ (take 8 (drop 1 state) ++ (take 8 (drop 9 state) ++ take 8 (drop 17 state)))
  parts =
      rw (take-add 1 24 state, one state (omega (arith, long)), take-add 8 16 (drop 1 state), drop-drop 8 1 state, take-add 8 8 (drop 9 state), drop-drop 8 9 state)

  flags_back : record_flags (record_in state) ≡ flags
  unfolding progress_by
  flags_back = rw (timed_back (bit_of 8 flags) due, timed_back (bit_of 16 flags) fixed) (bits flags fields.1)

  due_back : time_bytes (time_in (record_in state).due) ≡ take 8 (drop 9 state)
  unfolding progress_by
  due_back = ap time_bytes (time_in_back (bit_of 8 flags) due fields.2) ∙ time_back state bytes 9 (omega (arith, long))

  fixed_back : time_bytes (time_in (record_in state).fixed) ≡ take 8 (drop 17 state)
  unfolding progress_by
  fixed_back = ap time_bytes (time_in_back (bit_of 16 flags) fixed fields.3) ∙ time_back state bytes 17 (omega (arith, long))

  written : record_bytes (record_in state) ≡ take 25 state
  unfolding record_bytes progress_by
  written = assembled flags_back (time_back state bytes 1 (omega (arith, long))) due_back fixed_back ∙ sym parts

  pub record_only : renewed state (record_in state) ≡ state
  record_only = rw (written, take-take 25 25 state (omega arith)) (take-append-drop 25 state)
