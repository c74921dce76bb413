-- How a script is written from operations.
use Rattle.std.specs.Prelude.{ℕ, ◌/◌, ◌%◌, List, [], ◌∷◌, ◌++◌, length}
use Rattle.bus.specs.Operations.{Operation, write, read}

-- "two bytes big-endian"
abbrev pub two_bytes : ℕ → List ℕ
two_bytes n = n / 256 ∷ n % 256 ∷ []

unfoldable pub body : List Operation → List ℕ
body [] = []
body (write bytes ∷ os) = two_bytes (length bytes) ++ 0 ∷ bytes ++ body os
body (read n ∷ os) = two_bytes n ++ 1 ∷ body os

-- "Byte 0 is version 1; bytes 1 and 2, big-endian, the body's length."
unfoldable pub script_for : List Operation → List ℕ
script_for os = 1 ∷ two_bytes (length (body os)) ++ body os
