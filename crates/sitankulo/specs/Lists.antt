-- One command list in lent memory, after include/sitankulo.h, "one command list".
use Rattle.std.specs.Prelude.{ℕ, ◌/◌, ◌%◌, ◌≡◌, Bool, cond, ◌&&◌, List, length, leb, eqb, Result, Ok, Err}
use Rattle.wire.specs.Numbers.{word_bytes}
use Rattle.refusal.specs.declared.Refusal.{Refusal}
use Rattle.refusal.specs.declared.Refusal.TheVariants.{Room}
use Rattle.list.specs.declared.CommandList.{CommandList}
use Rattle.list.specs.declared.Built.{Built}
use Rattle.list.specs.Lists.{answer_number, write_of, read_of}
use Rattle.sitankulo.specs.Answers.{packed, room, written}

-- "flags": 1 START, 2 STOP, 4 a read that continues
abbrev pub starting : ℕ → Bool
starting flags = eqb (flags % 2) 1

abbrev pub stopping : ℕ → Bool
stopping flags = eqb (flags / 2 % 2) 1

abbrev pub continuing : ℕ → Bool
continuing flags = eqb (flags / 4 % 2) 1

-- the lists that are asked for
abbrev pub write_asked : ℕ → List ℕ → ℕ → Built
write_asked address bytes flags = write_of 32 address bytes (starting flags) (stopping flags)

abbrev pub read_asked : ℕ → ℕ → ℕ → Built
read_asked address n flags = read_of 32 address n (starting flags) (stopping flags) (continuing flags)

-- "Builder order: 1, 2, 3, 7": 7 where there is a list, and too little room for its words or its FIFO bytes
abbrev pub list_number : Built → ℕ → ℕ → ℕ
list_number b wordsRoom fifoRoom =
    cond (eqb (answer_number b.answer) 0)
    (cond (leb 32 wordsRoom) (cond (leb b.list.count fifoRoom) 0 room) room)
    (answer_number b.answer)

abbrev pub handed_out : Built → List ℕ → List ℕ → Bool
handed_out b words fifo = eqb (list_number b (length words) (length fifo)) 0

-- "Its answer's detail is how many bytes go into the FIFO."
abbrev pub list_answer : Built → List ℕ → List ℕ → ℕ
list_answer b words fifo =
    cond (handed_out b words fifo) (packed 0 b.list.count) (list_number b (length words) (length fifo))

-- "`words` gets 32 bytes, `fifo` as many as that."
abbrev pub words_after : Built → List ℕ → List ℕ → List ℕ
words_after b words fifo = written (handed_out b words fifo) (word_bytes b.list.words) 32 words

abbrev pub fifo_after : Built → List ℕ → List ℕ → List ℕ
fifo_after b words fifo = written (handed_out b words fifo) b.list.fifo b.list.count fifo

-- a list by itself: "`words` gets 32 bytes, `fifo` as many as that", or 7
abbrev pub fits : CommandList → List ℕ → List ℕ → Bool
fits l words fifo = leb 32 (length words) && leb l.count (length fifo)

abbrev pub LaidOut : CommandList → Result ℕ Refusal → List ℕ → List ℕ → List ℕ → List ℕ → Type 0
LaidOut l r words words' fifo fifo' =
    (r ≡ cond (fits l words fifo) (Ok (packed 0 l.count)) (Err Room))
    × (words' ≡ written (fits l words fifo) (word_bytes l.words) 32 words)
    × (fifo' ≡ written (fits l words fifo) l.fifo l.count fifo)

-- WHAT A CALL LEAVES: its answer, and each lent memory as it was and as it is
abbrev pub ListLeft : Built → ℕ → List ℕ → List ℕ → List ℕ → List ℕ → Type 0
ListLeft b r words words' fifo fifo' =
    (r ≡ list_answer b words fifo) × (words' ≡ words_after b words fifo) × (fifo' ≡ fifo_after b words fifo)
