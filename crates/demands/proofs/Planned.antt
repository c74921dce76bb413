-- THE TRAFFIC THEOREM: the lists that are planned for any operations, run in turn from Idle against any sensor, put on the bus what
-- UM10204 says of these operations, cut right after the written byte that the sensor refuses; and they never get stuck.
-- Assumes nothing.
use Prim.Native.Nat.{ℕ, zero, suc, ◌+◌, ◌-◌, ◌≤◌}
use native.Mathlib.Omega.{arith}
use mathlib.Core.Path.{◌≡◌, refl, sym, ap, ◌∙◌}
use mathlib.Core.Bool.{Bool, true, false, false≢true}
use mathlib.Core.List.{List, [], ◌∷◌, ◌++◌}
use lib.ListN.{drop}
use lib.Seq.{drop-drop}
use Rattle.bus.specs.Events.{ack, nack, Event, start_bit, stop_bit, sent, got, to_sensor, from_sensor}
use Rattle.bus.specs.Operations.{Operation, write, read, kept, Transfer, writes, reads, join, runs}
use Rattle.bus.specs.Traffic.{opening, written, next_byte, received, transferred, on_bus, traffic, cut}
use Rattle.list.specs.Lists.{sent_bytes, address_bytes}
use Rattle.controller.specs.declared.Phase.TheVariants.{Idle}
use Rattle.controller.specs.Model.{Sensor, Run, stuck, refused, done, emit, put, get, run_lists, events_of, end_of}
use Rattle.turns.specs.Steps.{nothing, is_empty, steps_from}
use Rattle.turns.specs.Plan.{lists_of, planned}
use Rattle.demands.specs.Built.{takes_in, shuts}
use Rattle.demands.specs.Plans.{meets, planned_run}
use Rattle.demands.proofs.LawsSteps.{goes}
use Rattle.demands.proofs.LawsResumed.{Some, some_runs, resume, runs_on}

abbrev left : List ℕ → ℕ → Sensor
left sends refuses = record { sends = sends; refuses = refuses }

put_meets :
    (bytes sends : List ℕ) (r : ℕ) (next : Sensor → Run) (es : List Event)
    → ((q : ℕ) → next (left sends q) ≡ meets es sends q)
    → put bytes sends r next ≡ meets (written bytes ++ es) sends r
unfolding put written meets
put_meets [] sends r next es h = h r
put_meets (b ∷ bytes) sends zero next es h = ap (emit (sent b ack)) (put_meets bytes sends zero next es h)
put_meets (b ∷ bytes) sends (suc zero) next es h = refl
put_meets (b ∷ bytes) sends (suc (suc r)) next es h = ap (emit (sent b ack)) (put_meets bytes sends (suc r) next es h)

-- a read's bytes: all but the last acknowledged
last_meets :
    (n : ℕ) (sends : List ℕ) (r : ℕ) (next : Sensor → Run) (es : List Event)
    → ((q : ℕ) → next (left (drop (suc n) sends) q) ≡ meets es (drop (suc n) sends) q)
    → get ack n sends r (λ j. get nack 1 j.sends j.refuses next) ≡ meets (received (suc n) sends ++ es) sends r
unfolding get received meets
last_meets zero sends r next es h = ap (emit (got (next_byte sends) nack)) (h r)
last_meets (suc n) sends r next es h =
    let one_more : 1 + suc n ≡ suc (suc n) = omega arith in
    let e : drop (suc n) (drop 1 sends) ≡ drop (suc (suc n)) sends = drop-drop (suc n) 1 sends ∙ ap (λ (m : ℕ). drop m sends) one_more in
    ap (emit (got (next_byte sends) ack)) (last_meets n (drop 1 sends) r next es (λ q. rw e (h q)))

takes_meets :
    (n : ℕ) (sends : List ℕ) (r : ℕ) (next : Sensor → Run) (es : List Event)
    → ((q : ℕ) → next (left (drop (suc n) sends) q) ≡ meets es (drop (suc n) sends) q)
    → takes_in false (suc n) (left sends r) next ≡ meets (received (suc n) sends ++ es) sends r
takes_meets n sends r next es h =
    let but-one : suc n - 1 ≡ n = omega arith in
    rw but-one (last_meets n sends r next es h)

module _ (address : ℕ) where
  resume_meets :
      (ts : List Transfer) (sends : List ℕ) (r : ℕ)
      → Some ts
      → resume address nothing ts (left sends r) ≡ meets (transferred address sends ts) sends r
  unfolding resume meets transferred opening sent_bytes written
  resume_meets [] sends r h = refl
  resume_meets (writes bytes ∷ ts) sends r h =
      ap (emit start_bit)
      (put_meets (address_bytes address to_sensor) sends r _ (written bytes ++ transferred address sends ts)
      (λ q. put_meets bytes sends q _ (transferred address sends ts) (λ p. resume_meets ts sends p h)))
  resume_meets (reads zero ∷ ts) sends r h = absurd (omega arith)
  resume_meets (reads (suc n) ∷ ts) sends r h =
      ap (emit start_bit)
      (put_meets (address_bytes address from_sensor) sends r _ (received (suc n) sends ++ transferred address (drop (suc n) sends) ts)
      (λ q. takes_meets n sends q _ (transferred address (drop (suc n) sends) ts)
      (λ p. resume_meets ts (drop (suc n) sends) p h.1)))

  joined_on_bus : (o : Operation) (ts : List Transfer) (sends : List ℕ) → on_bus address sends (join o ts) ≡ transferred address sends (join o ts)
  unfolding on_bus join
  joined_on_bus (write bytes) [] sends = refl
  joined_on_bus (write bytes) (writes more ∷ ts) sends = refl
  joined_on_bus (write bytes) (reads n ∷ ts) sends = refl
  joined_on_bus (read n) [] sends = refl
  joined_on_bus (read n) (writes bytes ∷ ts) sends = refl
  joined_on_bus (read n) (reads m ∷ ts) sends = refl

-- the events are the traffic, cut where the sensor refuses
events_cut : (es : List Event) (sends : List ℕ) (r : ℕ) → events_of (meets es sends r) ≡ cut r es
unfolding meets events_of cut
events_cut [] sends r = refl
events_cut (start_bit ∷ es) sends r = ap (λ (l : List Event). start_bit ∷ l) (events_cut es sends r)
events_cut (stop_bit ∷ es) sends r = ap (λ (l : List Event). stop_bit ∷ l) (events_cut es sends r)
events_cut (got b a ∷ es) sends r = ap (λ (l : List Event). got b a ∷ l) (events_cut es (drop 1 sends) r)
events_cut (sent b a ∷ es) sends zero = ap (λ (l : List Event). sent b a ∷ l) (events_cut es sends zero)
events_cut (sent b a ∷ es) sends (suc zero) = refl
events_cut (sent b a ∷ es) sends (suc (suc r)) = ap (λ (l : List Event). sent b a ∷ l) (events_cut es sends (suc r))

-- a traffic does not end stuck
abbrev is_stuck : Run → Bool
is_stuck stuck = true
is_stuck refused = false
is_stuck (done p k) = false
is_stuck (emit e r) = false

not_stuck : (es : List Event) (sends : List ℕ) (r : ℕ) → end_of (meets es sends r) ≡ stuck → ⊥
unfolding meets end_of
not_stuck [] sends r e = false≢true (ap is_stuck e)
not_stuck (start_bit ∷ es) sends r e = not_stuck es sends r e
not_stuck (stop_bit ∷ es) sends r e = not_stuck es sends r e
not_stuck (got b a ∷ es) sends r e = not_stuck es (drop 1 sends) r e
not_stuck (sent b a ∷ es) sends zero e = not_stuck es sends zero e
not_stuck (sent b a ∷ es) sends (suc zero) e = false≢true (ap is_stuck e)
not_stuck (sent b a ∷ es) sends (suc (suc r)) e = not_stuck es sends (suc r) e

module _
    (f c : ℕ) (small : f ≤ 255) (fits : c + 1 ≤ f) (four : 4 ≤ c) (address : ℕ) (known : address ≤ 127)
    (os : List Operation) (k : Sensor)
  where
    pub plan_run : planned_run f c address os k ≡ meets (traffic address k.sends (kept os)) k.sends k.refuses
    unfolding planned_run planned traffic steps_from lists_of run_lists runs on_bus meets
    plan_run =
        go (kept os)
        (runs_on f c small fits four address known os nothing k
        ∙ resume_meets address (runs (kept os)) k.sends k.refuses (some_runs os))
      where
        go :
            (ks : List Operation)
            → shuts (is_empty ks) Idle k (goes f small address known (steps_from c nothing ks))
            ≡ meets (transferred address k.sends (runs ks)) k.sends k.refuses
            → goes f small address known (steps_from c nothing ks) Idle k
            ≡ meets (on_bus address k.sends (runs ks)) k.sends k.refuses
        go [] h = refl
        go (o ∷ ks) h = h ∙ ap (λ (es : List Event). meets es k.sends k.refuses) (sym (joined_on_bus address o (runs ks) k.sends))

    pub plan_traffic : events_of (planned_run f c address os k) ≡ cut k.refuses (traffic address k.sends (kept os))
    plan_traffic = ap events_of plan_run ∙ events_cut (traffic address k.sends (kept os)) k.sends k.refuses

    pub plan_not_stuck : end_of (planned_run f c address os k) ≡ stuck → ⊥
    plan_not_stuck e = not_stuck (traffic address k.sends (kept os)) k.sends k.refuses (ap end_of (sym plan_run) ∙ e)
