-- The bus clear by pins, one poll at a time, after 01, "Bus clear". Times are 64-bit microseconds.
use Rattle.std.specs.Prelude.{ℕ, ◌+◌, ◌-◌, Bool, true, false, cond, leb, ltb, eqb}
use Rattle.bus_clear.specs.declared.Pins.{Pins}
use Rattle.bus_clear.specs.declared.Pins.TheVariants.{Still, SclLow, SclHigh, SdaHigh, SdaLowSclHigh, SclHighSdaLow, SclLowSdaHigh}
use Rattle.bus_clear.specs.declared.State.{State}
use Rattle.bus_clear.specs.declared.State.TheVariants.{Idle, SendStop, SendClock}
use Rattle.bus_clear.specs.declared.BusClear.{BusClear}
use Rattle.bus_clear.specs.declared.Answer.{Answer}
use Rattle.bus_clear.specs.declared.Answer.TheVariants.{Ready, Pending, ClockRange}
use Rattle.bus_clear.specs.declared.Stepped.{Stepped}
use Rattle.bus_clear.specs.declared.Begun.{Begun}
use Rattle.bus_clear.specs.Pins.{listed_with}

-- the largest time, and how long a level is held
abbrev pub last_time : ℕ
last_time = 0xFFFFFFFFFFFFFFFF

abbrev pub hold : ℕ
hold = 5

-- "Fresh with pins: SendClock(9, low), SCL low, SDA released, wait = now. Without pins: Idle, wait = now."
abbrev pub fresh_of : Bool → ℕ → Begun
fresh_of pins now =
    cond pins (record { clear = record { state = SendClock 9 false; wait = now }; pins = SclLowSdaHigh })
    (record { clear = record { state = Idle; wait = now }; pins = Still })

-- a poll that changes nothing
abbrev pub stays : BusClear → Answer → Stepped
stays c answer = record { next = c; answer = answer }

-- "Of these acting polls all but SendStop set wait to now + 5"; 13 where "a time sum exceeds 64 bits", with nothing changed
abbrev pub acts : BusClear → State → ℕ → Pins → Stepped
acts c state now p =
    cond (leb (now + hold) last_time) (record { next = record { state = state; wait = now + hold }; answer = Pending p })
    (stays c ClockRange)

-- "(0, low): SDA low then SCL high, SendStop. (n, low): SCL high; if SDA then reads high, SDA low, SendStop; else (n-1, high). (n, high):
-- SCL low, (n, low)."; without pins "(n, low) goes to (n-1, high)"
abbrev pub clocks : BusClear → ℕ → Bool → Bool → ℕ → Bool → Stepped
clocks c n high pins now sda =
    cond high (acts c (SendClock n false) now (listed_with pins SclLow))
    (cond (eqb n 0) (acts c SendStop now (listed_with pins SdaLowSclHigh))
    (cond pins
    (cond sda (acts c SendStop now SclHighSdaLow) (acts c (SendClock (n - 1) true) now SclHigh))
    (acts c (SendClock (n - 1) true) now Still)))

-- "Else now below wait is pending."
abbrev pub waits_first : BusClear → ℕ → Stepped → Stepped
waits_first c now stepped = cond (ltb now c.wait) (stays c (Pending Still)) stepped

-- "Idle is ready if there are no pins or SDA reads high."; "SendStop: SDA high, Idle, wait kept."
abbrev pub step_in : State → BusClear → Bool → ℕ → Bool → Stepped
step_in Idle c pins now sda = cond pins (cond sda (stays c Ready) (stays c (Pending Still))) (stays c Ready)
step_in SendStop c pins now sda =
    waits_first c now (record { next = record { state = Idle; wait = c.wait }; answer = Pending (listed_with pins SdaHigh) })
step_in (SendClock n high) c pins now sda = waits_first c now (clocks c n high pins now sda)

unfoldable pub step_of : BusClear → Bool → ℕ → Bool → Stepped
step_of c pins now sda = step_in c.state c pins now sda
