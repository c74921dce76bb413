-- Numbers in bytes, worked: "words in slices are big-endian".
-- Assumes nothing.
use mathlib.Core.Path.{◌≡◌, refl}
use mathlib.Core.List.{[], ◌∷◌, ◌++◌}
use Rattle.wire.specs.Numbers.{four_bytes, time_bytes, laid, word_bytes, times_bytes, word_at, time_at, words_of}

-- written: the highest byte first
pub big_endian :
    (four_bytes 0x01020304 ≡ 1 ∷ 2 ∷ 3 ∷ 4 ∷ [])
    × (time_bytes 0x0102030405060708 ≡ 1 ∷ 2 ∷ 3 ∷ 4 ∷ 5 ∷ 6 ∷ 7 ∷ 8 ∷ [])
    × (word_bytes (0x01020304 ∷ 5 ∷ []) ≡ 1 ∷ 2 ∷ 3 ∷ 4 ∷ 0 ∷ 0 ∷ 0 ∷ 5 ∷ [])
    × (times_bytes (1 ∷ 0x200 ∷ []) ≡ 0 ∷ 0 ∷ 0 ∷ 0 ∷ 0 ∷ 0 ∷ 0 ∷ 1 ∷ 0 ∷ 0 ∷ 0 ∷ 0 ∷ 0 ∷ 0 ∷ 2 ∷ 0 ∷ [])
unfolding laid
big_endian = (refl, refl, refl, refl)

-- read: at a place, and eight words one behind the other
pub read_big_endian :
    (word_at (9 ∷ 1 ∷ 2 ∷ 3 ∷ 4 ∷ []) 1 ≡ 0x01020304)
    × (time_at (9 ∷ 1 ∷ 2 ∷ 3 ∷ 4 ∷ 5 ∷ 6 ∷ 7 ∷ 8 ∷ []) 1 ≡ 0x0102030405060708)
    × (words_of (word_bytes (0x01020304 ∷ 2 ∷ 3 ∷ 4 ∷ 5 ∷ 6 ∷ 7 ∷ 0xFFFFFFFF ∷ []) ++ (9 ∷ []))
    ≡ 0x01020304 ∷ 2 ∷ 3 ∷ 4 ∷ 5 ∷ 6 ∷ 7 ∷ 0xFFFFFFFF ∷ [])
unfolding laid word_at time_at
read_big_endian = (refl, refl, refl)
