-- Laws of what a command spends, for citing: there is room in the trace for all that a list causes.
-- Assumes nothing.
use Prim.Native.Nat.{ℕ, ◌+◌, ◌*◌, ◌≤◌, ◌<◌}
use native.Mathlib.Omega.{arith}
use mathlib.Core.Path.{◌≡◌, refl}
use mathlib.Core.Bool.{Bool, true, false, cond, ◌&&◌, and-eq-true_iff}
use lib.ListN.{length, get_or, length-drop}
use lib.Dec.{leb, eqb}
use borrow.Author.Tests.{leb-true}
use Rattle.command.specs.declared.Command.{Command}
use Rattle.command.specs.declared.Command.TheVariants.{Start, Write, Read, ReadNack, Stop, End}
use Rattle.controller.specs.declared.Phase.{Phase}
use Rattle.controller.specs.declared.model.Trace.{Trace}
use Rattle.controller.specs.Rules.{State, Effect, halts, goes_on, finishes, may_start, may_write, may_read, may_stop, may_end, effect_of}
use Rattle.controller.specs.Tracing.{Within, written_by, received_by, events_by, Fits}

-- what a command has used of the FIFO and of the bytes that may be received, where its effect is to go on or to finish the list
abbrev Spent : Command → State → Effect → Type 0
Spent c s halts = Unit {0}
Spent c s (goes_on t) = (length s.fifo ≡ written_by c + length t.fifo) × (t.received ≡ s.received + received_by c)
Spent c s (finishes p) = (written_by c ≡ 0) × (received_by c ≡ 0)

spent_if : (c : Command) (s : State) (b : Bool) (x : Effect) → (b ≡ true → Spent c s x) → Spent c s (cond b x halts)
spent_if c s true x h = h refl
spent_if c s false x h = tt

turn_spends : (f : ℕ) (c : Command) (s : State) → Spent c s (effect_of f c s)
unfolding effect_of
turn_spends f Start s = spent_if Start s (may_start s.phase) _ (λ b. (omega arith, omega arith))
turn_spends f (Write n) s =
    spent_if (Write n) s (leb n (length s.fifo) && may_write n (get_or s.fifo 0 0) s.phase) _
    (λ b.
    let enough : n ≤ length s.fifo = leb-true n (length s.fifo) ((and-eq-true_iff _ _).0 b).0 in
    (rw length-drop (omega arith), omega arith))
turn_spends f (Read n) s = spent_if (Read n) s (may_read s.phase && leb (s.received + n) f) _ (λ b. (omega arith, omega arith))
turn_spends f ReadNack s = spent_if ReadNack s (may_read s.phase && leb (s.received + 1) f) _ (λ b. (omega arith, omega arith))
turn_spends f Stop s = spent_if Stop s (may_stop s.phase && eqb (length s.fifo) 0) _ (λ b. (refl, refl))
turn_spends f End s = spent_if End s (may_end s.phase && eqb (length s.fifo) 0) _ (λ b. (refl, refl))

-- at word i each word and each byte has caused at most one event
abbrev pub Spare : ℕ → State → Trace → Type 0
Spare i s t = (length t.events + 2 * length s.fifo ≤ 2 * (i + s.received + 32)) × (length t.received ≤ s.received)

-- of eight words: what a command causes fits, and it stays so
module _
    (s : State) (few : length s.fifo ≤ 32) (received : s.received ≤ 32)
    (i : ℕ) (more : i < 8)
    (t : Trace) (spare : Spare i s t)
    (c : Command) where
  pub finishes_fits : (p : Phase) → effect_of 32 c s ≡ finishes p → Fits s c t
  finishes_fits p e =
      let spent = rw e at (turn_spends 32 c s) in
      (omega arith, omega arith, omega arith)

  module _ (q : State) (e : effect_of 32 c s ≡ goes_on q) (stays : q.received ≤ 32) where
    pub goes_fits : Fits s c t
    goes_fits =
        let spent = rw e at (turn_spends 32 c s) in
        (omega arith, omega arith, omega arith)

    pub goes_within : (later : Trace) → Within t (events_by c) (received_by c) later → Spare (i + 1) q later
    goes_within later h =
        let spent = rw e at (turn_spends 32 c s) in
        (omega arith, omega arith)
