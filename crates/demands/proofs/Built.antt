-- What each list that the builder makes does on the controller model, for every size of the FIFO, sensor and what follows the list.
-- Assumes nothing.
use Rattle.std.specs.Prelude.{Option}
use Prim.Native.Nat.{ℕ, zero, suc, ◌+◌, ◌-◌, ◌*◌, ◌%◌, ◌≤◌}
use native.Mathlib.Omega.{arith}
use native.Mathlib.Nat.{add-zero, zero-add}
use mathlib.Core.Path.{◌≡◌, refl, sym, ap, ◌∙◌, fun_ext}
use mathlib.Core.Bool.{Bool, true, false, cond, ◌&&◌, false≢true}
use mathlib.Core.List.{List, [], ◌∷◌, ◌++◌, map}
use lib.ListN.{length, replicate}
use lib.Seq.{take-length, drop-length}
use borrow.Author.Tests.{le-leb}
use Rattle.bus.specs.Events.{ack, nack, start_bit, to_sensor, from_sensor}
use Rattle.bus.specs.Traffic.{opening}
use Rattle.command.specs.declared.Command.{Command}
use Rattle.command.specs.declared.Command.TheVariants.{Start, Write, Read, ReadNack, Stop}
use Rattle.command.specs.Word.{encode_of, meaning_of, within, Plannable}
use Rattle.command.proofs.Words.{decode_encode}
use Rattle.list.specs.Lists.{sent_bytes, address_bytes, counted, closing, write_fifo, write_commands, read_fifo, read_commands, padded}
use Rattle.controller.specs.declared.Phase.{Phase}
use Rattle.controller.specs.declared.Phase.TheVariants.{Idle, Started, Writing, Reading, ReadDone}
use Rattle.controller.specs.Rules.{State, may_start, may_write, after_write, may_stop, may_end, effect_of}
use Rattle.controller.specs.Model.{Sensor, Run, stuck, emit, put, get, obey, meant, follow, run_from, run_list}
use Rattle.demands.proofs.LawsBuilt.{put_append, goes_on}
use Rattle.demands.specs.Built.{write_list, read_list, opens, takes_in, shuts, fits_write, fits_read, after_read}

-- a phase in which a list may end, by a STOP or not
abbrev Closable : Bool → Phase → Type 0
Closable true p = may_stop p ≡ true
Closable false p = may_end p ≡ true

reads_on : (p : Phase) → fits_read false p ≡ true → p ≡ Reading
reads_on Idle h = absurd (false≢true h)
reads_on Started h = absurd (false≢true h)
reads_on Writing h = absurd (false≢true h)
reads_on Reading h = refl
reads_on ReadDone h = absurd (false≢true h)

module _ (f : ℕ) (small : f ≤ 255) (finish : Phase → Sensor → Run) where
  run_command :
      (c : Command) (ws : List ℕ) (s : State) (k : Sensor)
      → Plannable c
      → run_from f (encode_of c ∷ ws) s k finish ≡ follow (effect_of f c s) (obey c s k) (λ t j. run_from f ws t j finish) finish
  unfolding run_from
  run_command c ws s k h =
      ap (λ (m : Option Command). meant m (λ d. follow (effect_of f d s) (obey d s k) (λ t j. run_from f ws t j finish) finish)) (decode_encode c h)

  run_start :
      (ws fifo : List ℕ) (p : Phase) (r : ℕ) (k : Sensor)
      → may_start p ≡ true
      → run_from f (encode_of Start ∷ ws) (record { phase = p; fifo = fifo; received = r }) k finish
      ≡ emit start_bit (run_from f ws (record { phase = Started; fifo = fifo; received = r }) k finish)
  unfolding effect_of obey
  run_start ws fifo p r k h = run_command Start ws _ k tt ∙ rw h

  -- a WRITE of the whole FIFO
  run_write :
      (ws : List ℕ) (x : ℕ) (bytes : List ℕ) (p : Phase) (r : ℕ) (k : Sensor)
      → suc (length bytes) ≤ f
      → may_write (suc (length bytes)) x p ≡ true
      → run_from f (encode_of (Write (suc (length bytes))) ∷ ws) (record { phase = p; fifo = x ∷ bytes; received = r }) k finish
      ≡ put (x ∷ bytes) k.sends k.refuses
      (λ j. run_from f ws (record { phase = after_write x p; fifo = []; received = r }) j finish)
  unfolding effect_of obey
  run_write ws x bytes p r k h m =
      run_command (Write (suc (length bytes))) ws _ k (omega arith)
      ∙ rw (le-leb (suc (length bytes)) (suc (length bytes)) (omega arith), m, take-length bytes, drop-length bytes)

  -- the end of a list, in a phase that allows it
  run_closing :
      (start stop : Bool) (p : Phase) (zs : List ℕ) (r : ℕ) (k : Sensor)
      → Closable stop p
      → run_from f (map encode_of (closing start stop) ++ zs) (record { phase = p; fifo = []; received = r }) k finish ≡ shuts stop p k finish
  unfolding run_from effect_of obey meaning_of within
  run_closing true true p zs r k h = rw h
  run_closing true false p zs r k h = rw h
  run_closing false true p zs r k h = rw h
  run_closing false false p zs r k h = rw h

  -- READ n with ACK, and nothing for 0
  run_read :
      (n : ℕ) (ws fifo : List ℕ) (r : ℕ) (k : Sensor)
      → r + n ≤ f
      → run_from f (map encode_of (counted Read n) ++ ws) (record { phase = Reading; fifo = fifo; received = r }) k finish
      ≡ get ack n k.sends k.refuses (λ j. run_from f ws (record { phase = Reading; fifo = fifo; received = r + n }) j finish)
  unfolding effect_of obey get
  run_read zero ws fifo r k h = rw (add-zero r)
  run_read (suc n) ws fifo r k h = run_command (Read (suc n)) ws _ k (omega arith) ∙ rw (le-leb (r + suc n) f h)

  run_nack :
      (ws fifo : List ℕ) (r : ℕ) (k : Sensor)
      → r + 1 ≤ f
      → run_from f (encode_of ReadNack ∷ ws) (record { phase = Reading; fifo = fifo; received = r }) k finish
      ≡ get nack 1 k.sends k.refuses (λ j. run_from f ws (record { phase = ReadDone; fifo = fifo; received = r + 1 }) j finish)
  unfolding effect_of obey
  run_nack ws fifo r k h = run_command ReadNack ws _ k tt ∙ rw (le-leb (r + 1) f h)

  closable_writing : (stop : Bool) → Closable stop Writing
  closable_writing true = refl
  closable_writing false = refl

  -- a write that goes on: its bytes, what closes it
  write_on :
      (address : ℕ) (bytes : List ℕ) (stop : Bool) (k : Sensor)
      → length bytes ≤ f
      → run_list f (write_list address bytes false stop) Writing k finish
      ≡ put bytes k.sends k.refuses (λ i. shuts stop Writing i finish)
  unfolding run_list write_fifo write_commands padded put
  write_on address [] stop k n = rw (le-leb 0 f (omega arith)) (run_closing false stop Writing _ 0 k (closable_writing stop))
  write_on address (b ∷ bytes) stop k n =
      rw (le-leb (suc (length bytes)) f n)
      (run_write _ b bytes Writing 0 k n refl
      ∙ ap (put (b ∷ bytes) k.sends k.refuses) (fun_ext (λ j. run_closing false stop Writing _ 0 j (closable_writing stop))))

  -- a write: what opens it, its bytes, what closes it
  pub built_write :
      (address : ℕ) (bytes : List ℕ) (start stop : Bool) (p : Phase) (k : Sensor)
      → length (write_fifo address bytes start) ≤ f
      → fits_write start p ≡ true
      → run_list f (write_list address bytes start stop) p k finish
      ≡ opens start (address_bytes address to_sensor) k (λ j. put bytes j.sends j.refuses (λ i. shuts stop Writing i finish))
  unfolding run_list write_fifo write_commands padded sent_bytes opening
  built_write address bytes true stop p k n h =
      let even : (address * 2 + 0) % 2 ≡ 0 = omega arith in
      rw (le-leb (suc (length bytes)) f n)
      (run_start _ _ p 0 k h
      ∙ ap (emit start_bit)
      (run_write _ (address * 2 + 0) bytes Started 0 k n (rw even)
      ∙ rw even
      (ap (put ((address * 2 + 0) ∷ bytes) k.sends k.refuses)
      (fun_ext (λ j. run_closing true stop Writing _ 0 j (closable_writing stop)))
      ∙ put_append ((address * 2 + 0) ∷ []) bytes k.sends k.refuses _)))
  built_write address bytes false stop p k n h = rw (goes_on p h) (write_on address bytes stop k n)

  -- the bytes of a read, before any words
  read_bytes :
      (continues : Bool) (n : ℕ) (ws : List Command) (zs : List ℕ) (k : Sensor)
      → 1 ≤ n
      → n ≤ f
      → run_from f (map encode_of (cond continues (counted Read n) (counted Read (n - 1) ++ (ReadNack ∷ [])) ++ ws) ++ zs)
      (record { phase = Reading; fifo = []; received = 0 }) k finish
      ≡ takes_in continues n k
      (λ j. run_from f (map encode_of ws ++ zs) (record { phase = after_read continues; fifo = []; received = n }) j finish)
  unfolding get
  read_bytes continues zero ws zs k o h = absurd (omega arith)
  read_bytes true (suc n) ws zs k o h =
      rw (zero-add (suc n)) at (run_read (suc n) (map encode_of ws ++ zs) [] 0 k (omega arith))
  read_bytes false (suc zero) ws zs k o h = run_nack _ [] 0 k h
  read_bytes false (suc (suc n)) ws zs k o h =
      let less : suc (suc n) - 1 ≡ suc n = omega arith in
      let all : 0 + suc n + 1 ≡ suc (suc n) = omega arith in
      rw less
      (run_read (suc n) (encode_of ReadNack ∷ (map encode_of ws ++ zs)) [] 0 k (omega arith)
      ∙ ap (get ack (suc n) k.sends k.refuses)
      (fun_ext (λ j. rw all at (run_nack (map encode_of ws ++ zs) [] (0 + suc n) j (omega arith)))))

  closable_read : (continues stop : Bool) → (continues && stop) ≡ false → Closable stop (after_read continues)
  closable_read true true h = absurd (false≢true (sym h))
  closable_read true false h = refl
  closable_read false true h = refl
  closable_read false false h = refl

  -- a read, whatever comes after its bytes
  read_then :
      (address n : ℕ) (start stop continues : Bool) (p : Phase) (k : Sensor)
      → 1 ≤ n
      → n ≤ f
      → fits_read start p ≡ true
      → run_list f (read_list address n start stop continues) p k finish
      ≡ opens start (address_bytes address from_sensor) k
      (λ j. takes_in continues n j
      (λ i. run_from f (map encode_of (closing start stop) ++ replicate (8 - length (map encode_of (read_commands address n start stop continues))) 0)
      (record { phase = after_read continues; fifo = []; received = n }) i finish))
  unfolding run_list read_fifo read_commands padded sent_bytes opening
  read_then address n true stop continues p k o n≤ h =
      let odd : (address * 2 + 1) % 2 ≡ 1 = omega arith in
      rw (le-leb 1 f (omega arith))
      (run_start _ _ p 0 k h
      ∙ ap (emit start_bit)
      (run_write _ (address * 2 + 1) [] Started 0 k (omega arith) (rw odd)
      ∙ rw odd
      (ap (put ((address * 2 + 1) ∷ []) k.sends k.refuses)
      (fun_ext (λ j. read_bytes continues n (closing true stop) _ j o n≤)))))
  read_then address n false stop continues p k o n≤ h =
      rw (reads_on p h, le-leb 0 f (omega arith)) (read_bytes continues n (closing false stop) _ k o n≤)

  -- a read: what opens it, its bytes, what closes it
  pub built_read :
      (address n : ℕ) (start stop continues : Bool) (p : Phase) (k : Sensor)
      → 1 ≤ n
      → n ≤ f
      → fits_read start p ≡ true
      → (continues && stop) ≡ false
      → run_list f (read_list address n start stop continues) p k finish
      ≡ opens start (address_bytes address from_sensor) k (λ j. takes_in continues n j (λ i. shuts stop (after_read continues) i finish))
  built_read address n start stop continues p k o n≤ h c =
      read_then address n start stop continues p k o n≤ h
      ∙ ap (λ (g : Sensor → Run). opens start (address_bytes address from_sensor) k (λ j. takes_in continues n j g))
      (fun_ext (λ i. run_closing start stop (after_read continues) _ n i (closable_read continues stop c)))

  -- the one list of the builder's that hangs the controller: a read that continues cannot stop
  pub built_read_stuck :
      (address n : ℕ) (start : Bool) (p : Phase) (k : Sensor)
      → 1 ≤ n
      → n ≤ f
      → fits_read start p ≡ true
      → run_list f (read_list address n start true true) p k finish
      ≡ opens start (address_bytes address from_sensor) k (λ j. takes_in true n j (λ i. stuck))
  unfolding effect_of
  built_read_stuck address n start p k o n≤ h =
      read_then address n start true true p k o n≤ h
      ∙ ap (λ (g : Sensor → Run). opens start (address_bytes address from_sensor) k (λ j. takes_in true n j g))
      (fun_ext (λ i. no_stop start _ i))
    where
      no_stop :
          (start : Bool) (zs : List ℕ) (i : Sensor)
          → run_from f (map encode_of (closing start true) ++ zs) (record { phase = Reading; fifo = []; received = n }) i finish ≡ stuck
      no_stop true zs i = run_command Stop _ _ i tt
      no_stop false zs i = run_command Stop _ _ i tt
