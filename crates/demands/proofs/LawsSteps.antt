-- What the steps of a plan do on the controller model: a step, the pieces of an operation.
-- Assumes nothing.
use Rattle.std.specs.Prelude.{Ok}
use Prim.Native.Nat.{ℕ, zero, suc, ◌+◌, ◌-◌, ◌≤◌, ◌<◌}
use native.Mathlib.Nat.{zero-add, suc-add}
use native.Mathlib.Omega.{arith}
use mathlib.Core.Path.{◌≡◌, refl, sym, ap, ◌∙◌, fun_ext}
use mathlib.Core.Bool.{Bool, true, false, not, ◌&&◌}
use mathlib.Core.List.{List, [], ◌∷◌, ◌++◌, map}
use lib.Dec.{eqb}
use lib.ListN.{length, take, drop, take-append-drop, length-drop}
use lib.Seq.{take_all, length-take-le}
use borrow.Author.Tests.{le-ltb, ne_eqb}
use Rattle.bus.specs.Events.{Acknowledge, ack, got, to_sensor, from_sensor}
use Rattle.bus.specs.Traffic.{next_byte}
use Rattle.chunks.specs.Pieces.{pieces}
use Rattle.chunks.proofs.Laws.{pieces_by_lem}
use Rattle.command.specs.declared.Command.{Command}
use Rattle.list.specs.declared.Answer.TheVariants.{NoList}
use Rattle.list.specs.declared.Built.{Built}
use Rattle.list.specs.Lists.{address_bytes, write_fifo, write_commands, read_fifo, read_commands, write_limit, read_limit, listed, unlisted, write_step_of, read_step_of}
use Rattle.list.proofs.Laws.{write_limit_opened, write_listed, read_listed}
use Rattle.controller.specs.declared.Phase.{Phase}
use Rattle.controller.specs.declared.Phase.TheVariants.{Writing, Reading}
use Rattle.controller.specs.Model.{Sensor, Run, emit, put, get, Commands, run_list, run_lists}
use Rattle.turns.specs.Steps.{Step, write_step, read_step, write_steps, read_steps}
use Rattle.turns.specs.Plan.{built_of, list_of, lists_of}
use Rattle.demands.specs.Built.{commands_list, held, opens, takes_in, shuts, fits_write, fits_read, after_read}
use Rattle.demands.proofs.Built.{built_write, built_read}
use Rattle.demands.proofs.LawsBuilt.{put_append, goes_on, held_list, write_fits}

-- bytes in two parts
put_cut :
    (n : ℕ) (bytes sends : List ℕ) (r : ℕ) (next : Sensor → Run)
    → put (take n bytes) sends r (λ j. put (drop n bytes) j.sends j.refuses next) ≡ put bytes sends r next
put_cut n bytes sends r next =
    sym (put_append (take n bytes) (drop n bytes) sends r next)
    ∙ ap (λ (l : List ℕ). put l sends r next) (take-append-drop n bytes)

get_add :
    (a : Acknowledge) (m n : ℕ) (sends : List ℕ) (r : ℕ) (next : Sensor → Run)
    → get a (m + n) sends r next ≡ get a m sends r (λ j. get a n j.sends j.refuses next)
unfolding get
get_add a zero n sends r next = rw zero-add
get_add a (suc m) n sends r next = rw suc-add (ap (emit (got (next_byte sends) a)) (get_add a m n (drop 1 sends) r next))

pub takes_add :
    (continues : Bool) (m n : ℕ) (k : Sensor) (next : Sensor → Run)
    → 1 ≤ n
    → get ack m k.sends k.refuses (λ j. takes_in continues n j next) ≡ takes_in continues (m + n) k next
takes_add true m n k next h = sym (get_add ack m n k.sends k.refuses next)
takes_add false m n k next h =
    let e : m + n - 1 ≡ m + (n - 1) = omega arith in
    rw e (sym (get_add ack m (n - 1) k.sends k.refuses _))

takes_cut :
    (continues : Bool) (m n : ℕ) (k : Sensor) (next : Sensor → Run)
    → m < n
    → get ack m k.sends k.refuses (λ j. takes_in continues (n - m) j next) ≡ takes_in continues n k next
takes_cut continues m n k next h =
    let e : m + (n - m) ≡ n = omega arith in
    takes_add continues m (n - m) k next (omega arith) ∙ ap (λ (x : ℕ). takes_in continues x k next) e

-- ls cuts n into pieces of at most c, none of them empty but for a single one of no bytes
abbrev Cuts : ℕ → List ℕ → ℕ → Type 0
Cuts c [] n = ⊥
Cuts c (m ∷ []) n = (m ≡ n) × (n ≤ c)
Cuts c (m ∷ q ∷ ms) n = (1 ≤ m) × (m ≤ c) × (m < n) × Cuts c (q ∷ ms) (n - m)

pub pieces_cut : (c : ℕ) → 4 ≤ c → (n : ℕ) → Cuts c (pieces c n) n
pieces_cut c four = pieces_by_lem c four (λ r ls. Cuts c ls r) (λ r h. (refl, h)) near far
  where
    near : (r : ℕ) → c < r → r ≤ c + 2 → Cuts c ((c - 2) ∷ (r - (c - 2)) ∷ []) r
    near r h k = (omega arith, omega arith, omega arith, (refl, omega arith))

    far : (r : ℕ) (ls : List ℕ) → c + 2 < r → Cuts c ls (r - c) → Cuts c (c ∷ ls) r
    far r [] h d = absurd d
    far r (q ∷ ls) h d = (omega arith, omega arith, omega arith, d)

module _ (f : ℕ) (small : f ≤ 255) (address : ℕ) (known : address ≤ 127) where
  -- the lists of these steps, one after another
  abbrev pub goes : List Step → Phase → Sensor → Run
  goes steps p k = run_lists f (map held (lists_of f address steps)) p k

  run_listed :
      (s : Step) (commands : List Command) (fifo : List ℕ) (more : List Step) (p : Phase) (k : Sensor)
      → built_of f address s ≡ listed commands fifo
      → goes (s ∷ more) p k ≡ run_list f (commands_list commands fifo) p k (goes more)
  unfolding lists_of run_lists listed
  run_listed s commands fifo more p k e =
      ap (λ (b : Built). run_lists f (map held (list_of b.answer b.list ++ lists_of f address more)) p k) e
      ∙ ap (λ (l : Commands). run_list f l p k (goes more)) (held_list commands fifo)

  run_needless :
      (s : Step) (more : List Step) (p : Phase) (k : Sensor)
      → built_of f address s ≡ unlisted (Ok NoList)
      → goes (s ∷ more) p k ≡ goes more p k
  unfolding lists_of unlisted
  run_needless s more p k e =
      ap (λ (b : Built). run_lists f (map held (list_of b.answer b.list ++ lists_of f address more)) p k) e

  -- A STEP
  within_write : (start : Bool) (n : ℕ) → n + 1 ≤ f → n ≤ write_limit f address start
  within_write true n h = omega (arith, write_limit_opened f address)
  within_write false n h = omega arith

  within_read : (continues : Bool) (n : ℕ) → n + 1 ≤ f → n ≤ read_limit f continues
  within_read true n h = omega arith
  within_read false n h = omega arith

  written_step :
      (bytes : List ℕ) (start stop : Bool)
      → (eqb (length bytes) 0 && (not start && not stop)) ≡ false
      → length bytes + 1 ≤ f
      → write_step_of f address bytes start stop ≡ listed (write_commands address bytes start stop) (write_fifo address bytes start)
  unfolding write_step_of
  written_step bytes start stop e h =
      rw (le-ltb 127 address known, e) (write_listed f address known start stop bytes (within_write start (length bytes) h))

  module _ (more : List Step) (p : Phase) (k : Sensor) (start : Bool) where
    some_write :
        (bytes : List ℕ) (stop : Bool)
        → (eqb (length bytes) 0 && (not start && not stop)) ≡ false
        → length bytes + 1 ≤ f
        → fits_write start p ≡ true
        → goes (write_step bytes start stop ∷ more) p k
        ≡ opens start (address_bytes address to_sensor) k (λ j. put bytes j.sends j.refuses (λ i. shuts stop Writing i (goes more)))
    some_write bytes stop e n h =
        run_listed (write_step bytes start stop) _ _ more p k (written_step bytes start stop e n)
        ∙ built_write f small (goes more) address bytes start stop p k
        (write_fits f (omega arith) address start bytes (within_write start (length bytes) n)) h

    a_read :
        (n : ℕ) (stop continues : Bool)
        → 1 ≤ n
        → n + 1 ≤ f
        → fits_read start p ≡ true
        → (continues && stop) ≡ false
        → goes (read_step n start stop continues ∷ more) p k
        ≡ opens start (address_bytes address from_sensor) k (λ j. takes_in continues n j (λ i. shuts stop (after_read continues) i (goes more)))
    unfolding read_step_of
    a_read n stop continues some fits h c =
        run_listed (read_step n start stop continues) (read_commands address n start stop continues) (read_fifo address start) more p k
        (rw (le-ltb 127 address known, ne_eqb n 0 (omega arith))
        (read_listed f address known start stop n continues some (within_read continues n fits)))
        ∙ built_read f small (goes more) address n start stop continues p k some (omega arith) h c

  no_write :
      (more : List Step) (p : Phase) (k : Sensor)
      → fits_write false p ≡ true
      → goes (write_step [] false false ∷ more) p k ≡ goes more Writing k
  unfolding write_step_of
  no_write more p k h =
      run_needless (write_step [] false false) more p k (rw (le-ltb 127 address known))
      ∙ ap (λ (q : Phase). goes more q k) (goes_on p h)

  a_write :
      (more : List Step) (p : Phase) (k : Sensor) (start : Bool) (bytes : List ℕ) (stop : Bool)
      → length bytes + 1 ≤ f
      → fits_write start p ≡ true
      → goes (write_step bytes start stop ∷ more) p k
      ≡ opens start (address_bytes address to_sensor) k (λ j. put bytes j.sends j.refuses (λ i. shuts stop Writing i (goes more)))
  unfolding put
  a_write more p k start (b ∷ bytes) stop n h =
      some_write more p k start (b ∷ bytes) stop (rw (ne_eqb (suc (length bytes)) 0 (omega arith))) n h
  a_write more p k true [] stop n h = some_write more p k true [] stop refl n h
  a_write more p k false [] true n h = some_write more p k false [] true refl n h
  a_write more p k false [] false n h = no_write more p k h

  -- THE PIECES of an operation
  module _ (c : ℕ) (fits : c + 1 ≤ f) where
    pub write_pieces :
        (ls bytes : List ℕ) (start stop : Bool) (more : List Step) (p : Phase) (k : Sensor)
        → Cuts c ls (length bytes)
        → fits_write start p ≡ true
        → goes (write_steps ls bytes start stop ++ more) p k
        ≡ opens start (address_bytes address to_sensor) k (λ j. put bytes j.sends j.refuses (λ i. shuts stop Writing i (goes more)))
    unfolding write_steps
    write_pieces [] bytes start stop more p k d h = absurd d
    write_pieces (n ∷ []) bytes start stop more p k d h =
        rw (take_all n bytes (omega arith)) (a_write more p k start bytes stop (omega arith) h)
    write_pieces (n ∷ m ∷ ls) bytes start stop more p k d h =
        let first : length (take n bytes) ≡ n = length-take-le n bytes (omega arith) in
        let rest : Cuts c (m ∷ ls) (length (drop n bytes)) = rw (length-drop n bytes) d.3 in
        a_write (write_steps (m ∷ ls) (drop n bytes) false stop ++ more) p k start (take n bytes) false (omega arith) h
        ∙ ap (λ (next : Sensor → Run). opens start (address_bytes address to_sensor) k next) (fun_ext (λ j.
        ap (λ (next : Sensor → Run). put (take n bytes) j.sends j.refuses next)
        (fun_ext (λ i. write_pieces (m ∷ ls) (drop n bytes) false stop more Writing i rest refl))
        ∙ put_cut n bytes j.sends j.refuses _))

    pub read_pieces :
        (ls : List ℕ) (n : ℕ) (start stop continues : Bool) (more : List Step) (p : Phase) (k : Sensor)
        → Cuts c ls n
        → 1 ≤ n
        → fits_read start p ≡ true
        → (continues && stop) ≡ false
        → goes (read_steps ls start stop continues ++ more) p k
        ≡ opens start (address_bytes address from_sensor) k (λ j. takes_in continues n j (λ i. shuts stop (after_read continues) i (goes more)))
    unfolding read_steps
    read_pieces [] n start stop continues more p k d some h t = absurd d
    read_pieces (m ∷ []) n start stop continues more p k d some h t =
        rw (sym d.0) (a_read more p k start m stop continues (omega arith) (omega arith) h t)
    read_pieces (m ∷ q ∷ ls) n start stop continues more p k d some h t =
        a_read (read_steps (q ∷ ls) false stop continues ++ more) p k start m false true (omega arith) (omega arith) h refl
        ∙ ap (λ (next : Sensor → Run). opens start (address_bytes address from_sensor) k next) (fun_ext (λ j.
        ap (λ (next : Sensor → Run). get ack m j.sends j.refuses next)
        (fun_ext (λ i. read_pieces (q ∷ ls) (n - m) false stop continues more Reading i d.3 (omega arith) refl t))
        ∙ takes_cut continues m n j _ (omega arith)))
