-- What a call answers or lays is read back: by the macros of include/sitankulo.h, and by the next call.
-- Assumes nothing.
use Rattle.std.specs.Prelude.{Option, Some, None}
use Prim.Native.Nat.{ℕ, suc, ◌+◌, ◌*◌, ◌/◌, ◌%◌, ◌≤◌, ◌<◌}
use native.Mathlib.Omega.{arith}
use mathlib.Core.Path.{◌≡◌, refl, sym, ap, ◌∙◌}
use mathlib.Core.Bool.{true, false}
use mathlib.Core.List.{List, [], ◌∷◌, ◌++◌}
use lib.ListN.{length, get_or, drop}
use lib.Seq.{paste, drop-cons}
use lib.Dec.{eqb}
use borrow.Author.Tests.{le-leb, eqb-true}
use Rattle.wire.specs.Numbers.{four_bytes, time_bytes, word_at, time_at}
use Rattle.wire.proofs.Numbers.{time_returns}
use Rattle.bus_clear.specs.declared.State.{State}
use Rattle.bus_clear.specs.declared.State.TheVariants.{Idle, SendStop, SendClock}
use Rattle.bus_clear.specs.declared.BusClear.{BusClear}
use Rattle.sitankulo.specs.Answers.{packed}
use Rattle.sitankulo.specs.ClearLayout.{state_byte, clocks_byte, clear_bytes, holding, without_clocks, decoded_from, decoded_of}
use Rattle.sitankulo.proofs.LawsTests.{by_test}
use Rattle.sitankulo.proofs.LawsClearRuns.{held_long}

-- "SITANKULO_NUMBER(answer)", "SITANKULO_DETAIL(answer)"
pub number_read_back : (number detail : ℕ) → number ≤ 255 → packed number detail % 256 ≡ number
number_read_back number detail h = omega arith

pub detail_read_back : (number detail : ℕ) → number ≤ 255 → detail ≤ 255 → packed number detail / 256 % 256 ≡ detail
detail_read_back number detail h k = omega arith

-- a clear that a call leaves is read back as it was
from_bytes : (state : State) (wait : ℕ) → decoded_from (state_byte state) (clocks_byte state) wait ≡ holding state wait
unfolding decoded_from
from_bytes Idle wait = refl
from_bytes SendStop wait = refl
from_bytes (SendClock n false) wait = refl
from_bytes (SendClock n true) wait = refl

pub clear_read_back :
    (c : BusClear) (old : List ℕ)
    → c.wait < 0x10000000000000000
    → decoded_of (paste old 0 (clear_bytes c) 10) ≡ Some c
unfolding decoded_of
clear_read_back c old h =
    let a = state_byte c.state in
    let b = clocks_byte c.state in
    let t : time_at (a ∷ b ∷ (time_bytes c.wait ++ drop 10 old)) 2 ≡ c.wait = time_returns (a ∷ b ∷ []) c.wait (drop 10 old) h in
    simp (le-leb 10 (length (paste old 0 (clear_bytes c) 10)) (omega arith), t) (from_bytes c.state c.wait)

-- and a clear that is read is one that a call leaves: what no call writes is refused
module _ (a b wait : ℕ) (c : BusClear) where
  abbrev Says : Option BusClear → Type 0
  Says d = d ≡ Some c → (state_byte c.state ≡ a) × (clocks_byte c.state ≡ b) × (c.wait ≡ wait)

  held_says : (state : State) → state_byte state ≡ a → clocks_byte state ≡ b → Says (holding state wait)
  held_says state p q e =
      let same : c ≡ record { state = state; wait = wait } = cc in
      (ap (λ (x : BusClear). state_byte x.state) same ∙ p, ap (λ (x : BusClear). clocks_byte x.state) same ∙ q, ap (λ (x : BusClear). x.wait) same)

  foreign_says : Says None
  foreign_says e = let z : ◌≡◌ {A = ℕ} 0 1 = cc in absurd (omega arith)

  still_says : (state : State) → state_byte state ≡ a → clocks_byte state ≡ 0 → Says (without_clocks b state wait)
  still_says state p q =
      by_test Says (eqb b 0) (holding state wait) None (λ t. held_says state p (q ∙ sym (eqb-true b 0 t))) (λ t. foreign_says)

  bytes_say : Says (decoded_from a b wait)
  unfolding decoded_from
  bytes_say =
      by_test Says (eqb a 0) _ _ (λ t. still_says Idle (sym (eqb-true a 0 t)) refl)
      (λ t. by_test Says (eqb a 1) _ _ (λ t. still_says SendStop (sym (eqb-true a 1 t)) refl)
      (λ t. by_test Says (eqb a 2) _ _ (λ t. held_says (SendClock b false) (sym (eqb-true a 2 t)) refl)
      (λ t. by_test Says (eqb a 3) _ _ (λ t. held_says (SendClock b true) (sym (eqb-true a 3 t)) refl) (λ t. foreign_says))))

-- four bytes make a word, whose bytes they are
four_bytes_lem :
    (a b c d : ℕ)
    → a < 256
    → b < 256
    → c < 256
    → d < 256
    → four_bytes (a * 0x1000000 + b * 0x10000 + c * 0x100 + d) ≡ a ∷ b ∷ c ∷ d ∷ []
four_bytes_lem a b c d h i j k =
    let w = a * 0x1000000 + b * 0x10000 + c * 0x100 + d in
    let p : w / 0x1000000 % 256 ≡ a = omega arith in
    let q : w / 0x10000 % 256 ≡ b = omega arith in
    let r : w / 0x100 % 256 ≡ c = omega arith in
    let s : w % 256 ≡ d = omega arith in
    rw (p, q, r, s)

-- the time at byte 2, likewise
time_bytes_lem :
    (bytes : List ℕ)
    → ((i : ℕ) → get_or bytes i 0 < 256)
    → time_bytes (time_at bytes 2)
    ≡ get_or bytes 2 0 ∷ get_or bytes 3 0 ∷ get_or bytes 4 0 ∷ get_or bytes 5 0
    ∷ get_or bytes 6 0 ∷ get_or bytes 7 0 ∷ get_or bytes 8 0 ∷ get_or bytes 9 0 ∷ []
unfolding time_at word_at
time_bytes_lem bytes small =
    let high = word_at bytes 2 in
    let low = word_at bytes 6 in
    let most : low < 0x100000000 = omega (arith, small 6, small 7, small 8, small 9) in
    let p : (high * 0x100000000 + low) / 0x100000000 ≡ high = omega arith in
    let q : (high * 0x100000000 + low) % 0x100000000 ≡ low = omega arith in
    let front = four_bytes_lem (get_or bytes 2 0) (get_or bytes 3 0) (get_or bytes 4 0) (get_or bytes 5 0) (small 2) (small 3) (small 4) (small 5) in
    let back = four_bytes_lem (get_or bytes 6 0) (get_or bytes 7 0) (get_or bytes 8 0) (get_or bytes 9 0) (small 6) (small 7) (small 8) (small 9) in
    ap (λ (x : ℕ). four_bytes x ++ four_bytes ((high * 0x100000000 + low) % 0x100000000)) p
    ∙ ap (λ (x : ℕ). four_bytes high ++ four_bytes x) q
    ∙ ap (λ (l : List ℕ). l ++ four_bytes low) front
    ∙ ap (λ (l : List ℕ). get_or bytes 2 0 ∷ get_or bytes 3 0 ∷ get_or bytes 4 0 ∷ get_or bytes 5 0 ∷ l) back

-- ten bytes, one by one
one_more : (l r : List ℕ) (j : ℕ) → j < length l → drop (suc j) l ≡ r → drop j l ≡ get_or l j 0 ∷ r
one_more l r j h e = drop-cons l j 0 h ∙ ap (λ (more : List ℕ). get_or l j 0 ∷ more) e

pub held_was_left :
    (bytes : List ℕ) (c : BusClear)
    → ((i : ℕ) → get_or bytes i 0 < 256)
    → decoded_of bytes ≡ Some c
    → bytes ≡ paste bytes 0 (clear_bytes c) 10
unfolding decoded_of
held_was_left l c small e =
    let long : 10 ≤ length l = held_long l c e in
    let told = bytes_say (get_or l 0 0) (get_or l 1 0) (time_at l 2) c (rw (le-leb 10 (length l) long) at e) in
    let ten =
    one_more l _ 0 (omega arith) (one_more l _ 1 (omega arith) (one_more l _ 2 (omega arith) (one_more l _ 3 (omega arith)
    (one_more l _ 4 (omega arith) (one_more l _ 5 (omega arith) (one_more l _ 6 (omega arith) (one_more l _ 7 (omega arith)
    (one_more l _ 8 (omega arith) (one_more l (drop 10 l) 9 (omega arith) refl))))))))) in
    let time : List ℕ
    = get_or l 2 0 ∷ get_or l 3 0 ∷ get_or l 4 0 ∷ get_or l 5 0 ∷ get_or l 6 0 ∷ get_or l 7 0 ∷ get_or l 8 0 ∷ get_or l 9 0 ∷ drop 10 l in
    let state = state_byte c.state in
    let clocks = clocks_byte c.state in
    ten
    ∙ ap (λ (x : ℕ). x ∷ get_or l 1 0 ∷ time) (sym told.0)
    ∙ ap (λ (x : ℕ). state ∷ x ∷ time) (sym told.1)
    ∙ ap (λ (x : List ℕ). state ∷ clocks ∷ (x ++ drop 10 l)) (sym (time_bytes_lem l small))
    ∙ ap (λ (x : ℕ). state ∷ clocks ∷ (time_bytes x ++ drop 10 l)) (sym told.2)
