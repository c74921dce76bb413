-- The mission's words about the planned lists, where every written byte is acknowledged: one START for each run of like kept operations,
-- a NACK for each run of reads, and one STOP if any operation is kept.
-- Assumes nothing.
use Prim.Native.Nat.{ℕ, zero, suc, ◌+◌, ◌*◌, ◌≤◌}
use native.Mathlib.Omega.{arith}
use mathlib.Core.Path.{◌≡◌, refl, ap, ◌∙◌}
use mathlib.Core.List.{List, [], ◌∷◌, ◌++◌}
use lib.ListN.{drop}
use Rattle.bus.specs.Events.{ack, nack, Event, start_bit, stop_bit, sent, got, Acknowledge, Direction, to_sensor, from_sensor, direction_bit}
use Rattle.bus.specs.Operations.{Operation, kept, Transfer, writes, reads, runs}
use Rattle.bus.specs.Traffic.{opening, written, next_byte, received, transferred, on_bus, traffic, cut}
use Rattle.controller.specs.Model.{events_of}
use Rattle.demands.specs.Plans.{planned_run}
use Rattle.demands.specs.Tallies.{tally, is_start, is_stop, is_nack, all_runs, read_runs, Counted}
use Rattle.demands.proofs.LawsResumed.{Some, some_runs}
use Rattle.demands.proofs.Planned.{plan_traffic}

cut_none : (es : List Event) → cut 0 es ≡ es
unfolding cut
cut_none [] = refl
cut_none (start_bit ∷ es) = ap (λ (l : List Event). start_bit ∷ l) (cut_none es)
cut_none (stop_bit ∷ es) = ap (λ (l : List Event). stop_bit ∷ l) (cut_none es)
cut_none (sent b a ∷ es) = ap (λ (l : List Event). sent b a ∷ l) (cut_none es)
cut_none (got b a ∷ es) = ap (λ (l : List Event). got b a ∷ l) (cut_none es)

-- what runs come to, by a count that gives `per` for every read run
unfoldable weight : (Event → ℕ) → ℕ → List Transfer → ℕ
weight count per [] = count stop_bit
weight count per (writes bytes ∷ ts) = count start_bit + weight count per ts
weight count per (reads n ∷ ts) = count start_bit + per + weight count per ts

-- a count that leaves out written bytes, and gives the same for every read run
module _ (count : Event → ℕ) (unsent : (b : ℕ) → count (sent b ack) ≡ 0) (per : ℕ)
    (each : (n : ℕ) (sends : List ℕ) → 1 ≤ n → tally count (received n sends) ≡ per)
  where
    tally_append : (l m : List Event) → tally count (l ++ m) ≡ tally count l + tally count m
    unfolding tally
    tally_append [] m = omega arith
    tally_append (e ∷ l) m = omega (arith, tally_append l m)

    tally_written : (bytes : List ℕ) → tally count (written bytes) ≡ 0
    unfolding tally written
    tally_written [] = refl
    tally_written (b ∷ bytes) = omega (arith, unsent b, tally_written bytes)

    tally_opening : (address : ℕ) (d : Direction) → tally count (opening address d) ≡ count start_bit
    unfolding tally opening
    tally_opening address d = omega (arith, unsent (address * 2 + direction_bit d))

    tally_runs :
        (address : ℕ) (ts : List Transfer) (sends : List ℕ) → Some ts → tally count (transferred address sends ts) ≡ weight count per ts
    unfolding tally transferred weight
    tally_runs address [] sends h = omega arith
    tally_runs address (writes bytes ∷ ts) sends h =
        let rest = transferred address sends ts in
        omega (
          arith,
          tally_append (opening address to_sensor) (written bytes ++ rest),
          tally_append (written bytes) rest,
          tally_opening address to_sensor,
          tally_written bytes,
          tally_runs address ts sends h,
        )
    tally_runs address (reads n ∷ ts) sends h =
        let rest = transferred address (drop n sends) ts in
        omega (
          arith,
          tally_append (opening address from_sensor) (received n sends ++ rest),
          tally_append (received n sends) rest,
          tally_opening address from_sensor,
          each n sends h.0,
          tally_runs address ts (drop n sends) h.1,
        )

received_none :
    (count : Event → ℕ)
    → ((b : ℕ) (a : Acknowledge) → count (got b a) ≡ 0)
    → (n : ℕ) (sends : List ℕ)
    → tally count (received n sends) ≡ 0
unfolding tally received
received_none count ungot zero sends = refl
received_none count ungot (suc zero) sends = omega (arith, ungot (next_byte sends) nack)
received_none count ungot (suc (suc n)) sends =
    omega (arith, ungot (next_byte sends) ack, received_none count ungot (suc n) (drop 1 sends))

received_nack : (n : ℕ) (sends : List ℕ) → 1 ≤ n → tally is_nack (received n sends) ≡ 1
unfolding tally received
received_nack zero sends h = absurd (omega arith)
received_nack (suc zero) sends h = omega arith
received_nack (suc (suc n)) sends h = omega (arith, received_nack (suc n) (drop 1 sends) (omega arith))

starts_weigh : (ts : List Transfer) → weight is_start 0 ts ≡ all_runs ts
unfolding weight all_runs
starts_weigh [] = refl
starts_weigh (writes bytes ∷ ts) = omega (arith, starts_weigh ts)
starts_weigh (reads n ∷ ts) = omega (arith, starts_weigh ts)

stops_weigh : (ts : List Transfer) → weight is_stop 0 ts ≡ 1
unfolding weight
stops_weigh [] = refl
stops_weigh (writes bytes ∷ ts) = omega (arith, stops_weigh ts)
stops_weigh (reads n ∷ ts) = omega (arith, stops_weigh ts)

nacks_weigh : (ts : List Transfer) → weight is_nack 1 ts ≡ read_runs ts
unfolding weight read_runs
nacks_weigh [] = refl
nacks_weigh (writes bytes ∷ ts) = omega (arith, nacks_weigh ts)
nacks_weigh (reads n ∷ ts) = omega (arith, nacks_weigh ts)

runs_counted : (address : ℕ) (sends : List ℕ) (ts : List Transfer) → Some ts → Counted (on_bus address sends ts) ts
unfolding on_bus tally all_runs read_runs
runs_counted address sends [] h = (refl, refl, refl)
runs_counted address sends (t ∷ ts) h = (
  tally_runs is_start (λ b. refl) 0 (λ n l some. received_none is_start (λ b a. refl) n l) address (t ∷ ts) sends h
      ∙ starts_weigh (t ∷ ts),
  tally_runs is_nack (λ b. refl) 1 received_nack address (t ∷ ts) sends h ∙ nacks_weigh (t ∷ ts),
  tally_runs is_stop (λ b. refl) 0 (λ n l some. received_none is_stop (λ b a. refl) n l) address (t ∷ ts) sends h
      ∙ stops_weigh (t ∷ ts),
)

module _
    (f c : ℕ) (small : f ≤ 255) (fits : c + 1 ≤ f) (four : 4 ≤ c) (address : ℕ) (known : address ≤ 127)
    (os : List Operation) (sends : List ℕ)
  where
    abbrev events : List Event
    events = events_of (planned_run f c address os (record { sends = sends; refuses = 0 }))

    pub planned_bus : (events ≡ traffic address sends (kept os)) × Counted events (runs (kept os))
    unfolding traffic
    planned_bus =
        let whole : events ≡ traffic address sends (kept os) =
        plan_traffic f c small fits four address known os (record { sends = sends; refuses = 0 })
        ∙ cut_none (traffic address sends (kept os)) in
        (whole, rw whole (runs_counted address sends (runs (kept os)) (some_runs os)))
