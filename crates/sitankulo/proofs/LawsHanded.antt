-- Laws of handed lists: no list has more than 32 FIFO bytes, and as many stand in its row.
-- Assumes nothing.
use Rattle.std.specs.Prelude.{Option, Result, Ok, Err}
use Rattle.refusal.specs.declared.Refusal.{Refusal}
use Prim.Native.Nat.{ℕ, ◌≤◌}
use native.Mathlib.Omega.{arith}
use mathlib.Core.Path.{◌≡◌, refl}
use mathlib.Core.Bool.{Bool, true, false, cond, not, ◌&&◌}
use mathlib.Core.List.{List}
use lib.ListN.{length, length-append, length-replicate}
use lib.Dec.{ltb, eqb}
use borrow.Author.Tests.{ltb-false}
use Rattle.command.specs.declared.Command.{Command}
use Rattle.list.specs.declared.Answer.{Answer}
use Rattle.list.specs.declared.Answer.TheVariants.{NoList}
use Rattle.list.specs.declared.CommandList.{CommandList}
use Rattle.list.specs.Lists.{invalid, write_limit, read_limit, write_fifo, write_commands, read_fifo, read_commands, padded, listed, unlisted, write_of, read_of, write_step_of, read_step_of}
use Rattle.list.proofs.Laws.{write_limit_opened, write_opened_fifo, write_more_fifo, read_opened_fifo, read_more_fifo}
use Rattle.refusal.specs.declared.Refusal.TheVariants.{AddressInvalid, ZeroLengthInvalid, FifoExceeded, Shape, OutOfTurn}
use Rattle.script.specs.Scripts.{Script, asks, refused, script_of}
use Rattle.turns.specs.Steps.{Step, write_step, read_step}
use Rattle.turns.specs.Plan.{built_of}
use Rattle.turns.specs.Turns.{Turn, turn, over, beyond, carries, turns_of, turn_at}
use Rattle.transaction.specs.declared.Handing.{Handing}
use Rattle.transaction.specs.declared.Handing.TheVariants as handing
use Rattle.transaction.specs.declared.Handed.{Handed}
use Rattle.transaction.specs.declared.Settings.{Settings}
use Rattle.transaction.specs.declared.Progress.{Progress}
use Rattle.transaction.specs.Deadlines.{due_of}
use Rattle.transaction.specs.Calls.{out_of_turn, without_list, handed_by, turn_handed, next_by, next_of}

abbrev pub Few : CommandList → Type 0
Few l = (l.count ≤ 32) × (length l.fifo ≡ 32)

few_unlisted : (answer : Result Answer Refusal) → Few (unlisted answer).list
unfolding unlisted
few_unlisted answer = (omega arith, refl)

few_listed : (commands : List Command) (fifo : List ℕ) → length fifo ≤ 32 → Few (listed commands fifo).list
unfolding listed padded
few_listed commands fifo h = (h, simp (length-append, length-replicate) (omega arith))

few_either : (t : Bool) (a b : Handed) → Few a.list → Few b.list → Few (cond t a b).list
few_either true a b h k = h
few_either false a b h k = k

module _ (address : ℕ) where
  write_fits : (start : Bool) (bytes : List ℕ) → length bytes ≤ write_limit 32 address start → length (write_fifo address bytes start) ≤ 32
  write_fits true bytes h = rw (write_opened_fifo address bytes) (omega (arith, write_limit_opened 32 address))
  write_fits false bytes h = rw (write_more_fifo address bytes) h

  read_fits : (start : Bool) → length (read_fifo address start) ≤ 32
  read_fits true = rw (read_opened_fifo address) (omega arith)
  read_fits false = rw (read_more_fifo address) (omega arith)

  few_write : (bytes : List ℕ) (start stop : Bool) → Few (write_of 32 address bytes start stop).list
  unfolding write_of
  few_write bytes start stop = go (invalid address) (ltb (write_limit 32 address start) (length bytes)) refl where
    go :
        (t u : Bool)
        → ltb (write_limit 32 address start) (length bytes) ≡ u
        → Few (cond t (unlisted (Err AddressInvalid))
        (cond u (unlisted (Err FifoExceeded)) (listed (write_commands address bytes start stop) (write_fifo address bytes start)))).list
    go true u e = few_unlisted (Err AddressInvalid)
    go false true e = few_unlisted (Err FifoExceeded)
    go false false e =
        few_listed (write_commands address bytes start stop) (write_fifo address bytes start)
        (write_fits start bytes (ltb-false (write_limit 32 address start) (length bytes) e))

  few_read : (n : ℕ) (start stop continues : Bool) → Few (read_of 32 address n start stop continues).list
  unfolding read_of
  few_read n start stop continues = go (invalid address) (eqb n 0) (ltb (read_limit 32 continues) n) where
    go :
        (t u v : Bool)
        → Few (cond t (unlisted (Err AddressInvalid))
        (cond u (unlisted (Err ZeroLengthInvalid))
        (cond v (unlisted (Err FifoExceeded)) (listed (read_commands address n start stop continues) (read_fifo address start))))).list
    go true u v = few_unlisted (Err AddressInvalid)
    go false true v = few_unlisted (Err ZeroLengthInvalid)
    go false false true = few_unlisted (Err FifoExceeded)
    go false false false = few_listed (read_commands address n start stop continues) (read_fifo address start) (read_fits start)

  few_built : (s : Step) → Few (built_of 32 address s).list
  unfolding write_step_of read_step_of
  few_built (write_step bytes start stop) =
      go (not (invalid address) && (eqb (length bytes) 0 && (not start && not stop))) where
        go : (t : Bool) → Few (cond t (unlisted (Ok NoList)) (write_of 32 address bytes start stop)).list
        go true = few_unlisted (Ok NoList)
        go false = few_write bytes start stop
  few_built (read_step n start stop continues) = go (not (invalid address) && eqb n 0) where
    go : (t : Bool) → Few (cond t (unlisted (Ok NoList)) (read_of 32 address n start stop continues)).list
    go true = few_unlisted (Ok NoList)
    go false = few_read n start stop continues

module _ (p : Progress) (settings : Settings) (address time : ℕ) where
  abbrev without : Result Handing Refusal → Handed
  without answer = without_list answer p

  few_timed : (t : Result (Option ℕ) Refusal) (s : Step) → Few (handed_by t (built_of 32 address s).list p).list
  few_timed (Err refusal) s = few_unlisted (Ok NoList)
  few_timed (Ok due) s = few_built address s

  few_turn : (t : Turn) → Few (turn_handed t p settings address time).list
  few_turn beyond = few_unlisted (Ok NoList)
  few_turn over =
      few_either p.outstanding (without (Err Shape))
      (cond (out_of_turn p) (without (Err OutOfTurn)) (without (Ok handing.NoneLeft))) (few_unlisted (Ok NoList))
      (few_either (out_of_turn p) (without (Err OutOfTurn)) (without (Ok handing.NoneLeft)) (few_unlisted (Ok NoList)) (few_unlisted (Ok NoList)))
  few_turn (turn s landing) =
      let due = due_of settings.deadline p.fixed (carries s) time in
      few_either (out_of_turn p) (without (Err OutOfTurn)) (handed_by due (built_of 32 address s).list p)
      (few_unlisted (Ok NoList)) (few_timed due s)

  few_asked : (s : Script) → Few (next_by s p settings address time).list
  few_asked (refused r) = few_unlisted (Ok NoList)
  few_asked (asks os) = few_turn (turn_at 0 p.place (turns_of 31 os))

  pub few_handed : (script : List ℕ) (h : Handed) → h ≡ next_of p settings address script time → Few h.list
  unfolding next_of
  few_handed script h e = rw e (few_asked (script_of address script))
