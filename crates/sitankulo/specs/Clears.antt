-- The bus clear in lent memory, after include/sitankulo.h, "the bus clear by pins".
use Rattle.std.specs.Prelude.{ℕ, ◌≡◌, cond, ◌&&◌, List, length, leb, Option, Some, None, Result, Ok, Err}
use Rattle.std.proofs.Math.Seq.{paste}
use Rattle.refusal.specs.declared.Refusal.{Refusal}
use Rattle.refusal.specs.declared.Refusal.TheVariants as refusal
use Rattle.bus_clear.specs.declared.Pins.{Pins}
use Rattle.bus_clear.specs.declared.Pins.TheVariants.{Still}
use Rattle.bus_clear.specs.declared.BusClear.{BusClear}
use Rattle.bus_clear.specs.declared.Answer.{Answer}
use Rattle.bus_clear.specs.declared.Answer.TheVariants.{Ready, Pending, ClockRange}
use Rattle.bus_clear.specs.Pins.{change_bytes}
use Rattle.bus_clear.specs.Clear.{fresh_of, step_of}
use Rattle.sitankulo.specs.declared.clears.Telling.{Telling}
use Rattle.refusal.specs.Numbers.{number_of}
use Rattle.sitankulo.specs.Answers.{packed, pending, yes}
use Rattle.sitankulo.specs.ClearLayout.{clear_size, clear_bytes, decoded_of}

abbrev pub Told : Type 0
Told = Result Telling Refusal

abbrev pub tells : ℕ → BusClear → Pins → Told
tells number next pins = Ok (record { number = number; next = next; pins = pins })

-- what a call tells before room is looked at: "A fresh clear. 0, or 7."
abbrev pub fresh_told : ℕ → ℕ → Told
fresh_told pins time = tells 0 (fresh_of (yes pins) time).clear (fresh_of (yes pins) time).pins

-- "One poll. 0 the bus is free; SITANKULO_PENDING; or 5 (clear), 13, 7."
abbrev pub poll_told : Answer → BusClear → Told
poll_told Ready next = tells 0 next Still
poll_told (Pending pins) next = tells pending next pins
poll_told ClockRange next = Err refusal.ClockRange

abbrev pub step_told : Option BusClear → ℕ → ℕ → ℕ → Told
step_told None pins time sda = Err refusal.Shape
step_told (Some c) pins time sda =
    poll_told (step_of c (yes pins) time (yes sda)).answer (step_of c (yes pins) time (yes sda)).next

-- 7 where the clear, or the changes, have too little room
abbrev pub roomed : Told → List ℕ → List ℕ → Told
roomed (Err r) clear changes = Err r
roomed (Ok t) clear changes =
    cond (leb clear_size (length clear) && leb (length (change_bytes t.pins)) (length changes)) (Ok t) (Err refusal.Room)

-- the answer, and the lent memories at exit: "Pin changes come in order, a byte each", "The detail is how many."
abbrev pub telling_answer : Told → ℕ
telling_answer (Err r) = number_of r
telling_answer (Ok t) = packed t.number (length (change_bytes t.pins))

abbrev pub clear_after : Told → List ℕ → List ℕ
clear_after (Err r) clear = clear
clear_after (Ok t) clear = paste clear 0 (clear_bytes t.next) clear_size

abbrev pub changes_after : Told → List ℕ → List ℕ
changes_after (Err r) changes = changes
changes_after (Ok t) changes = paste changes 0 (change_bytes t.pins) (length (change_bytes t.pins))

-- the two calls
abbrev pub fresh_call : List ℕ → ℕ → ℕ → List ℕ → Told
fresh_call clear pins time changes = roomed (fresh_told pins time) clear changes

abbrev pub step_call : List ℕ → ℕ → ℕ → ℕ → List ℕ → Told
step_call clear pins time sda changes = roomed (step_told (decoded_of clear) pins time sda) clear changes

-- WHAT A CALL LEAVES: its answer, and each lent memory as it was and as it is
abbrev pub ClearLeft : Told → ℕ → List ℕ → List ℕ → List ℕ → List ℕ → Type 0
ClearLeft t r clear clear' changes changes' =
    (r ≡ telling_answer t) × (clear' ≡ clear_after t clear) × (changes' ≡ changes_after t changes)
