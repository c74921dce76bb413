-- Numbers in byte slices: "words in slices are big-endian".
use Rattle.std.specs.Prelude.{ℕ, ◌+◌, ◌*◌, ◌/◌, ◌%◌, List, [], ◌∷◌, ◌++◌, get_or}

abbrev pub four_bytes : ℕ → List ℕ
four_bytes word = word / 0x1000000 % 256 ∷ word / 0x10000 % 256 ∷ word / 0x100 % 256 ∷ word % 256 ∷ []

abbrev pub time_bytes : ℕ → List ℕ
time_bytes time = four_bytes (time / 0x100000000) ++ four_bytes (time % 0x100000000)

-- numbers one after another, each in its bytes
unfoldable pub laid : (ℕ → List ℕ) → List ℕ → List ℕ
laid bytes [] = []
laid bytes (n ∷ ns) = bytes n ++ laid bytes ns

abbrev pub word_bytes : List ℕ → List ℕ
word_bytes = laid four_bytes

abbrev pub times_bytes : List ℕ → List ℕ
times_bytes = laid time_bytes

-- what is read at a place
unfoldable pub word_at : List ℕ → ℕ → ℕ
word_at bytes at =
    get_or bytes at 0 * 0x1000000 + get_or bytes (at + 1) 0 * 0x10000 + get_or bytes (at + 2) 0 * 0x100 + get_or bytes (at + 3) 0

unfoldable pub time_at : List ℕ → ℕ → ℕ
time_at bytes at = word_at bytes at * 0x100000000 + word_at bytes (at + 4)

abbrev pub words_of : List ℕ → List ℕ
words_of bytes =
    word_at bytes 0 ∷ word_at bytes 4 ∷ word_at bytes 8 ∷ word_at bytes 12
    ∷ word_at bytes 16 ∷ word_at bytes 20 ∷ word_at bytes 24 ∷ word_at bytes 28 ∷ []
