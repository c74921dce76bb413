-- The nine clocks, one acting poll after another: which state follows which, by what SDA reads.
use Rattle.std.specs.Prelude.{ℕ, suc, ◌+◌, ◌≤◌, ◌≡◌, Bool, true, false, cond, List, [], ◌∷◌, ltb}
use Rattle.bus_clear.specs.declared.State.{State}
use Rattle.bus_clear.specs.declared.State.TheVariants.{Idle, SendStop, SendClock}
use Rattle.bus_clear.specs.declared.BusClear.{BusClear}
use Rattle.bus_clear.specs.Clear.{last_time, hold, step_of}
use Rattle.bus_clear.specs.Runs.{Sample}

-- the record after every sample of a tape has been polled
unfoldable pub polled_by : Bool → List Sample → BusClear → BusClear
polled_by pins [] c = c
polled_by pins (s ∷ tape) c = polled_by pins tape (step_of c pins s.clock s.sda).next

-- clocks far enough apart: no poll has to wait for the one before it, and no time exceeds 64 bits
abbrev pub Spaced : ℕ → List Sample → Type 0
Spaced wait [] = Unit {0}
Spaced wait (s ∷ tape) = (wait ≤ s.clock) × (s.clock + hold ≤ last_time) × Spaced (s.clock + hold) tape

-- the first poll is a rise of SCL, and so is every second one after it. SDA reads low at each rise before the k-th and high at that;
-- the poll after it makes the STOP
pub data ReleasedAt : ℕ → List Sample → Type 0 where
  at_once : {s u : Sample} → s.sda ≡ true → ReleasedAt 1 (s ∷ u ∷ [])
  later : {s u : Sample} {k : ℕ} {tape : List Sample} → s.sda ≡ false → ReleasedAt k tape → ReleasedAt (suc k) (s ∷ u ∷ tape)

-- SDA still reads low at the n-th rise. The rise after it is made with SDA pulled low, whatever the sensor does, for the STOP
pub data HeldThrough : ℕ → List Sample → Type 0 where
  over : {s u : Sample} → HeldThrough 0 (s ∷ u ∷ [])
  held : {s u : Sample} {n : ℕ} {tape : List Sample} → s.sda ≡ false → HeldThrough n tape → HeldThrough (suc n) (s ∷ u ∷ tape)

-- the samples of a tape that are acted on: those that do not come before the wait is over
abbrev pub waits : State → ℕ → ℕ → Bool
waits Idle now wait = false
waits SendStop now wait = ltb now wait
waits (SendClock n high) now wait = ltb now wait

unfoldable pub acted_on : Bool → List Sample → BusClear → List Sample
acted_on pins [] c = []
acted_on pins (s ∷ tape) c =
    cond (waits c.state s.clock c.wait) (acted_on pins tape c) (s ∷ acted_on pins tape (step_of c pins s.clock s.sda).next)
