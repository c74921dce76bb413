-- Pieces, after 01, "Pieces (ours)". The first argument is always the chunk size c, the bytes that go at once: 31 in the base.
use Rattle.std.specs.Prelude.{ℕ, zero, suc, ◌+◌, ◌-◌, ◌*◌, ◌/◌, List, [], ◌∷◌, cond, leb, ltb}

-- "With r bytes left: r if r is at most 31; 29 if r is 32 or 33; else 31."
unfoldable pub piece_of : ℕ → ℕ → ℕ
piece_of c r = cond (leb r c) r (cond (leb r (c + 2)) (c - 2) c)

-- piece after piece, at most `most` of them, until no byte is left
unfoldable pub pieces_by : ℕ → ℕ → ℕ → List ℕ
pieces_by c zero r = []
pieces_by c (suc most) r = piece_of c r ∷ cond (leb r c) [] (pieces_by c most (r - piece_of c r))

-- the pieces of n bytes: each but the last has a byte at least, so n and one are enough.
-- "An empty write operation is one empty piece."
unfoldable pub pieces : ℕ → ℕ → List ℕ
pieces c n = pieces_by c (suc n) n

unfoldable pub sum : List ℕ → ℕ
sum [] = 0
sum (x ∷ l) = x + sum l

-- how many they are, by a quotient. (0 - 1 is 0, so no bytes make one piece.)
unfoldable pub count_of : ℕ → ℕ → ℕ
count_of c n = (n - 1) / c + 1

-- where the j-th starts, counted from 0: at j * c, or two bytes before if no more than two would be left there; at n past the last
unfoldable pub start_of : ℕ → ℕ → ℕ → ℕ
start_of c n j = cond (ltb j (count_of c n)) (j * c - cond (leb n (j * c + 2)) 2 0) n
