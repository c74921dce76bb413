-- Words and commands: each planned command comes back from its word, and a word means a command only if it is that command's word.
-- Assumes nothing.
use Rattle.std.specs.Prelude.{Option, Some, None}
use Prim.Native.Nat.{ℕ, ◌+◌, ◌/◌, ◌%◌}
use native.Mathlib.Omega.{arith}
use mathlib.Core.Path.{◌≡◌, refl, sym, ap, ◌∙◌}
use mathlib.Core.Bool.{Bool, true, false, cond, true≢false}
use mathlib.Core.List.{[], ◌∷◌, map}
use lib.Dec.{eqb}
use borrow.Author.Tests.{eqb-true, eqb-false}
use Rattle.command.specs.Word.{encode_of, within, meaning_of, Plannable, opcode_of, done_of}
use Rattle.command.specs.declared.Command.{Command}
use Rattle.command.specs.declared.Command.TheVariants.{Start, Write, Read, ReadNack, Stop, End}
use Rattle.command.proofs.Laws.{within_yes, within_true, meaning_write, meaning_read}

-- the six planned words of document 01
pub planned_words_lem :
    (encode_of Start ≡ 0x3000)
    × ((n : ℕ) → encode_of (Write n) ≡ 0x0900 + n)
    × ((n : ℕ) → encode_of (Read n) ≡ 0x1800 + n)
    × (encode_of ReadNack ≡ 0x1C01)
    × (encode_of Stop ≡ 0x1000)
    × (encode_of End ≡ 0x2000)
planned_words_lem = (refl, (λ n. refl), (λ n. refl), refl, refl, refl)

pub decode_encode : (c : Command) → Plannable c → meaning_of (encode_of c) ≡ Some c
unfolding meaning_of within
decode_encode Start h = refl
decode_encode (Write n) h = meaning_write (0x0900 + n) (omega arith) (omega arith) ∙ ap (λ (m : ℕ). Some (Write m)) (omega arith)
decode_encode (Read n) h = meaning_read (0x1800 + n) (omega arith) (omega arith) ∙ ap (λ (m : ℕ). Some (Read m)) (omega arith)
decode_encode ReadNack h = refl
decode_encode Stop h = refl
decode_encode End h = refl

-- what a word means is right of it: a command is plannable and the word is its; a malformed word is no plannable command's
abbrev Right : ℕ → Option Command → Type 0
Right w (Some c) = Plannable c × (encode_of c ≡ w)
Right w None = (c : Command) → Plannable c → encode_of c ≡ w → ⊥

by_test : {A : Type 0} (P : A → Type 0) (t : Bool) {a b : A} → (t ≡ true → P a) → (t ≡ false → P b) → P (cond t a b)
by_test P true f g = f refl
by_test P false f g = g refl

pub encode_decode : (w : ℕ) → Right w (meaning_of w)
unfolding meaning_of
encode_decode w =
    by_test (Right w) (eqb w 0x3000) (λ e. (tt, sym (eqb-true w 0x3000 e)))
    (λ a. by_test (Right w) (within 0x0901 0x09FF w) (λ e. let h = within_true 0x0901 0x09FF w e in omega arith)
    (λ b. by_test (Right w) (within 0x1801 0x18FF w) (λ e. let h = within_true 0x1801 0x18FF w e in omega arith)
    (λ c. by_test (Right w) (eqb w 0x1C01) (λ e. (tt, sym (eqb-true w 0x1C01 e)))
    (λ d. by_test (Right w) (eqb w 0x1000) (λ e. (tt, sym (eqb-true w 0x1000 e)))
    (λ s. by_test (Right w) (eqb w 0x2000) (λ e. (tt, sym (eqb-true w 0x2000 e)))
    (λ t. none a b c d s t))))))
  where
    none :
        eqb w 0x3000 ≡ false
        → within 0x0901 0x09FF w ≡ false
        → within 0x1801 0x18FF w ≡ false
        → eqb w 0x1C01 ≡ false
        → eqb w 0x1000 ≡ false
        → eqb w 0x2000 ≡ false
        → (c : Command)
        → Plannable c
        → encode_of c ≡ w
        → ⊥
    none a b c d s t Start h e = eqb-false w 0x3000 a (sym e)
    none a b c d s t (Write n) h e = true≢false (sym (within_yes 0x0901 0x09FF w (omega arith) (omega arith)) ∙ b)
    none a b c d s t (Read n) h e = true≢false (sym (within_yes 0x1801 0x18FF w (omega arith) (omega arith)) ∙ c)
    none a b c d s t ReadNack h e = eqb-false w 0x1C01 d (sym e)
    none a b c d s t Stop h e = eqb-false w 0x1000 s (sym e)
    none a b c d s t End h e = eqb-false w 0x2000 t (sym e)

-- a word that has been executed, its done bit set, is malformed
pub done_malformed : (w : ℕ) → done_of w ≡ true → meaning_of w ≡ None
done_malformed w e = go (meaning_of w) (encode_decode w) (eqb-true (w / 0x80000000 % 2) 1 e) refl
  where
    go : (m : Option Command) → Right w m → w / 0x80000000 % 2 ≡ 1 → meaning_of w ≡ m → meaning_of w ≡ None
    go None r done q = q
    go (Some Start) r done q = absurd (omega arith)
    go (Some (Write n)) r done q = absurd (omega arith)
    go (Some (Read n)) r done q = absurd (omega arith)
    go (Some ReadNack) r done q = absurd (omega arith)
    go (Some Stop) r done q = absurd (omega arith)
    go (Some End) r done q = absurd (omega arith)

-- "the command check reads the opcode from bits 11 to 13", and from no other: START, WRITE, STOP, READ, END, each done or with other bits
-- set; the bits above and below
pub opcodes_read :
    map opcode_of (0x3000 ∷ 0x80000901 ∷ 0x1000 ∷ 0x1C01 ∷ 0xFFFFE7FF ∷ 0x4000 ∷ 0x07FF ∷ 0xFFFFFFFF ∷ [])
    ≡ 6 ∷ 1 ∷ 2 ∷ 3 ∷ 4 ∷ 0 ∷ 0 ∷ 7 ∷ []
opcodes_read = refl

-- bit 31
pub done_read : map done_of (0x80000000 ∷ 0x7FFFFFFF ∷ 0xFFFFFFFF ∷ 0 ∷ []) ≡ true ∷ false ∷ true ∷ false ∷ []
done_read = refl
