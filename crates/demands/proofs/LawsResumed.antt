-- The steps of a plan, run in turn, go as the runs of its operations: each opened once, and one STOP at the end.
-- Assumes nothing.
use Prim.Native.Nat.{ℕ, zero, suc, ◌+◌, ◌≤◌}
use native.Mathlib.Omega.{arith}
use mathlib.Core.Path.{◌≡◌, refl, sym, ap, ◌∙◌, fun_ext}
use mathlib.Core.Bool.{Bool, true, false, ◌&&◌}
use mathlib.Core.List.{List, [], ◌∷◌}
use lib.ListN.{length}
use Rattle.bus.specs.Events.{stop_bit, to_sensor, from_sensor}
use Rattle.bus.specs.Operations.{Operation, write, read, kept, Transfer, writes, reads, join, runs}
use Rattle.chunks.specs.Pieces.{pieces}
use Rattle.list.specs.Lists.{address_bytes}
use Rattle.controller.specs.declared.Phase.{Phase}
use Rattle.controller.specs.declared.Phase.TheVariants.{Idle, Writing}
use Rattle.controller.specs.Model.{Sensor, Run, done, emit, put, run_lists}
use Rattle.turns.specs.Steps.{Before, nothing, after, starts, is_empty, read_follows, steps_from}
use Rattle.turns.specs.Plan.{lists_of}
use Rattle.demands.specs.Built.{opens, takes_in, shuts, fits_write, fits_read, after_read}
use Rattle.demands.proofs.LawsBuilt.{put_append}
use Rattle.demands.proofs.LawsSteps.{takes_add, pieces_cut, goes, write_pieces, read_pieces}

-- every read is of some bytes
abbrev pub Some : List Transfer → Type 0
Some [] = Unit {0}
Some (writes bytes ∷ ts) = Some ts
Some (reads n ∷ ts) = (1 ≤ n) × Some ts

pub some_runs : (os : List Operation) → Some (runs (kept os))
unfolding kept runs join
some_runs [] = tt
some_runs (write bytes ∷ os) = go (runs (kept os)) (some_runs os)
  where
    go : (ts : List Transfer) → Some ts → Some (join (write bytes) ts)
    go [] h = tt
    go (writes more ∷ ts) h = h
    go (reads n ∷ ts) h = h
some_runs (read zero ∷ os) = some_runs os
some_runs (read (suc n) ∷ os) = go (runs (kept os)) (some_runs os)
  where
    go : (ts : List Transfer) → Some ts → Some (join (read (suc n)) ts)
    go [] h = (omega arith, tt)
    go (writes bytes ∷ ts) h = (omega arith, h)
    go (reads m ∷ ts) h = (omega arith, h.1)

-- RUNS, ONE AFTER ANOTHER, and then a STOP. The first goes on with what stands before, if that is like it
module _ (address : ℕ) where
  unfoldable pub resume : Before → List Transfer → Sensor → Run
  resume b [] k = emit stop_bit (done Idle k)
  resume b (writes bytes ∷ ts) k =
      opens (starts b to_sensor) (address_bytes address to_sensor) k
      (λ j. put bytes j.sends j.refuses (λ i. resume nothing ts i))
  resume b (reads n ∷ ts) k =
      opens (starts b from_sensor) (address_bytes address from_sensor) k (λ j. takes_in false n j (λ i. resume nothing ts i))

  resume_write :
      (b : Before) (bytes : List ℕ) (ts : List Transfer) (k : Sensor)
      → resume b (join (write bytes) ts) k
      ≡ opens (starts b to_sensor) (address_bytes address to_sensor) k
      (λ j. put bytes j.sends j.refuses (λ i. resume (after to_sensor) ts i))
  unfolding resume join
  resume_write b bytes [] k = refl
  resume_write b bytes (writes more ∷ ts) k =
      ap (λ (next : Sensor → Run). opens (starts b to_sensor) (address_bytes address to_sensor) k next)
      (fun_ext (λ j. put_append bytes more j.sends j.refuses _))
  resume_write b bytes (reads n ∷ ts) k = refl

  -- whether a read is first, and whether it is of some bytes
  abbrev pub Agrees : List Transfer → Bool → Type 0
  Agrees [] t = t ≡ false
  Agrees (writes bytes ∷ ts) t = t ≡ false
  Agrees (reads n ∷ ts) t = (t ≡ true) × (1 ≤ n)

  resume_read :
      (b : Before) (n : ℕ) (t : Bool) (ts : List Transfer) (k : Sensor)
      → Agrees ts t
      → resume b (join (read n) ts) k
      ≡ opens (starts b from_sensor) (address_bytes address from_sensor) k (λ j. takes_in t n j (λ i. resume (after from_sensor) ts i))
  unfolding resume join
  resume_read b n t [] k h = rw h
  resume_read b n t (writes bytes ∷ ts) k h = rw h
  resume_read b n t (reads m ∷ ts) k h =
      rw h.0
      (ap (λ (next : Sensor → Run). opens (starts b from_sensor) (address_bytes address from_sensor) k next)
      (fun_ext (λ j. sym (takes_add false n m j _ h.1))))

  pub agrees : (os : List Operation) → Agrees (runs (kept os)) (read_follows (kept os))
  unfolding kept runs join
  agrees [] = refl
  agrees (write bytes ∷ os) = go (runs (kept os))
    where
      go : (ts : List Transfer) → Agrees (join (write bytes) ts) false
      go [] = refl
      go (writes more ∷ ts) = refl
      go (reads n ∷ ts) = refl
  agrees (read zero ∷ os) = agrees os
  agrees (read (suc n) ∷ os) = go (runs (kept os))
    where
      go : (ts : List Transfer) → Agrees (join (read (suc n)) ts) true
      go [] = (refl, omega arith)
      go (writes bytes ∷ ts) = (refl, omega arith)
      go (reads m ∷ ts) = (refl, omega arith)

-- THE PLAN GOES AS ITS RUNS
abbrev phase_after : Before → List Operation → Phase
phase_after nothing os = Idle
phase_after (after to_sensor) os = Writing
phase_after (after from_sensor) os = after_read (read_follows os)

write_fits_in : (b : Before) (bytes : List ℕ) (os : List Operation) → fits_write (starts b to_sensor) (phase_after b (write bytes ∷ os)) ≡ true
write_fits_in nothing bytes os = refl
write_fits_in (after to_sensor) bytes os = refl
write_fits_in (after from_sensor) bytes os = refl

read_fits_in : (b : Before) (n : ℕ) (os : List Operation) → fits_read (starts b from_sensor) (phase_after b (read n ∷ os)) ≡ true
read_fits_in nothing n os = refl
read_fits_in (after to_sensor) n os = refl
read_fits_in (after from_sensor) n os = refl

-- what continues does not stop
follows_or_last : (os : List Operation) → (read_follows os && is_empty os) ≡ false
follows_or_last [] = refl
follows_or_last (write bytes ∷ os) = refl
follows_or_last (read n ∷ os) = refl

module _ (f c : ℕ) (small : f ≤ 255) (fits : c + 1 ≤ f) (four : 4 ≤ c) (address : ℕ) (known : address ≤ 127) where
  pub runs_on :
      (os : List Operation) (b : Before) (k : Sensor)
      → shuts (is_empty (kept os)) (phase_after b (kept os)) k (goes f small address known (steps_from c b (kept os)))
      ≡ resume address b (runs (kept os)) k
  unfolding kept runs steps_from lists_of run_lists resume
  runs_on [] b k = refl
  runs_on (write bytes ∷ os) b k =
      write_pieces f small address known c fits (pieces c (length bytes)) bytes (starts b to_sensor) (is_empty (kept os))
      (steps_from c (after to_sensor) (kept os)) _ k (pieces_cut c four (length bytes)) (write_fits_in b bytes (kept os))
      ∙ ap (λ (next : Sensor → Run). opens (starts b to_sensor) (address_bytes address to_sensor) k (λ j. put bytes j.sends j.refuses next))
      (fun_ext (λ i. runs_on os (after to_sensor) i))
      ∙ sym (resume_write address b bytes (runs (kept os)) k)
  runs_on (read zero ∷ os) b k = runs_on os b k
  runs_on (read (suc n) ∷ os) b k =
      read_pieces f small address known c fits (pieces c (suc n)) (suc n) (starts b from_sensor) (is_empty (kept os)) (read_follows (kept os))
      (steps_from c (after from_sensor) (kept os)) _ k (pieces_cut c four (suc n)) (omega arith) (read_fits_in b (suc n) (kept os))
      (follows_or_last (kept os))
      ∙ ap (λ (next : Sensor → Run).
      opens (starts b from_sensor) (address_bytes address from_sensor) k (λ j. takes_in (read_follows (kept os)) (suc n) j next))
      (fun_ext (λ i. runs_on os (after from_sensor) i))
      ∙ sym (resume_read address b (suc n) (read_follows (kept os)) (runs (kept os)) k (agrees address os))
