-- Counting events: the mission's own words about a traffic.
use Rattle.std.specs.Prelude.{ℕ, ◌+◌, ◌≡◌, List, [], ◌∷◌}
use Rattle.bus.specs.Events.{ack, nack, Event, start_bit, stop_bit, sent, got}
use Rattle.bus.specs.Operations.{Transfer, writes, reads}

-- how many of these events count
unfoldable pub tally : (Event → ℕ) → List Event → ℕ
tally count [] = 0
tally count (e ∷ es) = count e + tally count es

abbrev pub is_start : Event → ℕ
is_start start_bit = 1
is_start stop_bit = 0
is_start (sent b a) = 0
is_start (got b a) = 0

abbrev pub is_stop : Event → ℕ
is_stop start_bit = 0
is_stop stop_bit = 1
is_stop (sent b a) = 0
is_stop (got b a) = 0

-- a received byte that the controller does not acknowledge
abbrev pub is_nack : Event → ℕ
is_nack start_bit = 0
is_nack stop_bit = 0
is_nack (sent b a) = 0
is_nack (got b ack) = 0
is_nack (got b nack) = 1

-- the runs of a plan, those of reads, and 1 if there is any
unfoldable pub all_runs : List Transfer → ℕ
all_runs [] = 0
all_runs (t ∷ ts) = 1 + all_runs ts

unfoldable pub read_runs : List Transfer → ℕ
read_runs [] = 0
read_runs (writes bytes ∷ ts) = read_runs ts
read_runs (reads n ∷ ts) = 1 + read_runs ts

abbrev pub any_run : List Transfer → ℕ
any_run [] = 0
any_run (t ∷ ts) = 1

-- "one START and address per run of like kept operations, .. NACK on each read run's last byte only, and one STOP at the end if any
-- operation is kept"
abbrev pub Counted : List Event → List Transfer → Type 0
Counted es ts = (tally is_start es ≡ all_runs ts) × (tally is_nack es ≡ read_runs ts) × (tally is_stop es ≡ any_run ts)
