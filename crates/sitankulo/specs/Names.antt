-- The names of refusals, after 01, "Numbers of refusals", as ASCII; and the call that tells them.
use Rattle.std.specs.Prelude.{ℕ, cond, List, [], ◌∷◌, length, leb, eqb}
use Rattle.sitankulo.specs.Answers.{packed, room, none_left, written}

-- "1 AddressInvalid" to "14 ListRefused"; nothing for another number
unfoldable pub name_of : ℕ → List ℕ
name_of number =
    -- AddressInvalid
    cond (eqb number 1) (65 ∷ 100 ∷ 100 ∷ 114 ∷ 101 ∷ 115 ∷ 115 ∷ 73 ∷ 110 ∷ 118 ∷ 97 ∷ 108 ∷ 105 ∷ 100 ∷ [])
    -- ZeroLengthInvalid
    (cond (eqb number 2) (90 ∷ 101 ∷ 114 ∷ 111 ∷ 76 ∷ 101 ∷ 110 ∷ 103 ∷ 116 ∷ 104 ∷ 73 ∷ 110 ∷ 118 ∷ 97 ∷ 108 ∷ 105 ∷ 100 ∷ [])
    -- FifoExceeded
    (cond (eqb number 3) (70 ∷ 105 ∷ 102 ∷ 111 ∷ 69 ∷ 120 ∷ 99 ∷ 101 ∷ 101 ∷ 100 ∷ 101 ∷ 100 ∷ [])
    -- Version
    (cond (eqb number 4) (86 ∷ 101 ∷ 114 ∷ 115 ∷ 105 ∷ 111 ∷ 110 ∷ [])
    -- Shape
    (cond (eqb number 5) (83 ∷ 104 ∷ 97 ∷ 112 ∷ 101 ∷ [])
    -- Size
    (cond (eqb number 6) (83 ∷ 105 ∷ 122 ∷ 101 ∷ [])
    -- Room
    (cond (eqb number 7) (82 ∷ 111 ∷ 111 ∷ 109 ∷ [])
    -- ExecutionIncomplete
    (cond (eqb number 8) (69 ∷ 120 ∷ 101 ∷ 99 ∷ 117 ∷ 116 ∷ 105 ∷ 111 ∷ 110 ∷ 73 ∷ 110 ∷ 99 ∷ 111 ∷ 109 ∷ 112 ∷ 108 ∷ 101 ∷ 116 ∷ 101 ∷ [])
    -- AcknowledgeCheckFailed
    (cond (eqb number 9) (65 ∷ 99 ∷ 107 ∷ 110 ∷ 111 ∷ 119 ∷ 108 ∷ 101 ∷ 100 ∷ 103 ∷ 101 ∷ 67 ∷ 104 ∷ 101 ∷ 99 ∷ 107 ∷ 70 ∷ 97 ∷ 105 ∷ 108 ∷ 101 ∷ 100 ∷ [])
    -- ArbitrationLost
    (cond (eqb number 10) (65 ∷ 114 ∷ 98 ∷ 105 ∷ 116 ∷ 114 ∷ 97 ∷ 116 ∷ 105 ∷ 111 ∷ 110 ∷ 76 ∷ 111 ∷ 115 ∷ 116 ∷ [])
    -- Timeout
    (cond (eqb number 11) (84 ∷ 105 ∷ 109 ∷ 101 ∷ 111 ∷ 117 ∷ 116 ∷ [])
    -- OutOfTurn
    (cond (eqb number 12) (79 ∷ 117 ∷ 116 ∷ 79 ∷ 102 ∷ 84 ∷ 117 ∷ 114 ∷ 110 ∷ [])
    -- ClockRange
    (cond (eqb number 13) (67 ∷ 108 ∷ 111 ∷ 99 ∷ 107 ∷ 82 ∷ 97 ∷ 110 ∷ 103 ∷ 101 ∷ [])
    -- ListRefused
    (cond (eqb number 14) (76 ∷ 105 ∷ 115 ∷ 116 ∷ 82 ∷ 101 ∷ 102 ∷ 117 ∷ 115 ∷ 101 ∷ 100 ∷ [])
    [])))))))))))))

-- "0 with its length as detail; SITANKULO_NONE for another number; or 7"
abbrev pub told_answer : List ℕ → ℕ → ℕ
told_answer name textRoom =
    cond (eqb (length name) 0) none_left (cond (leb (length name) textRoom) (packed 0 (length name)) room)

abbrev pub told_text : List ℕ → List ℕ → List ℕ
told_text name text = written (leb (length name) (length text)) name (length name) text
