-- Document 01's starred cases: one table, a row an equation between what a definition gives and what the document says.
use Rattle.refusal.specs.declared.Refusal.{Refusal}
use Rattle.std.specs.Prelude.{ℕ, ◌≡◌, Bool, true, false, List, [], ◌∷◌, map, take, drop, replicate, Some, None, Result, Ok, Err}
use Rattle.bus.specs.Operations.{Operation, write, read}
use Rattle.chunks.specs.Pieces.{pieces}
use Rattle.refusal.specs.declared.Refusal.TheVariants.{ZeroLengthInvalid, FifoExceeded}
use Rattle.refusal.specs.Numbers.{number_of}
use Rattle.list.specs.declared.Answer.{Answer}
use Rattle.list.specs.declared.Answer.TheVariants.{Listed}
use Rattle.list.specs.declared.CommandList.{CommandList}
use Rattle.list.specs.Lists.{write_of, read_of}
use Rattle.script.specs.Scripts.{Script, asks, refused, script_of}
use Rattle.turns.specs.Plan.{planned}
use Rattle.controller.specs.declared.Phase.TheVariants.{Idle, Reading}
use Rattle.controller.specs.Model.{Commands, phase_number}
use Rattle.controller.specs.Verdicts.{inspected}
use Rattle.bus_clear.specs.declared.State.TheVariants.{SendStop}
use Rattle.bus_clear.specs.declared.State.TheVariants as clear
use Rattle.bus_clear.specs.Clear.{step_of}
use Rattle.bus_clear.specs.Runs.{Sample}
use Rattle.outcome.specs.declared.Outcome.TheVariants.{Done}
use Rattle.outcome.specs.declared.Snapshot.{Snapshot}
use Rattle.outcome.specs.Answers.{answer_of, answering}
use Rattle.outcome.specs.Outcomes.{errors_of, poll_of, commands_of}
use Rattle.demands.specs.Built.{held}
use Rattle.demands.specs.Clears.{polled_with, made_with, sampled, rises, falls, always_low, fresh}

infix 4 ◌is◌
-- a row: what a definition gives `is` what the document says
pub data Case : Type 1 where
  ◌is◌ : {A : Type 0} → A → A → Case

abbrev pub Holds : Case → Type 0
Holds (given is said) = given ≡ said

abbrev pub AllHold : List Case → Type 0
AllHold [] = Unit {0}
AllHold (c ∷ cs) = Holds c × AllHold cs

-- the chunk size of the base
abbrev pub chunk : ℕ
chunk = 31

-- the FIFO of the base, and the address of the cases
abbrev pub fifo : ℕ
fifo = 32

abbrev pub address : ℕ
address = 0x29

-- the builder's answer to a write of n bytes, and to a read of n
abbrev pub write_answer : ℕ → Bool → Result Answer Refusal
write_answer n start = (write_of fifo address (replicate n 7) start true).answer

abbrev pub read_as : ℕ → Bool → Result Answer Refusal
read_as n continues = (read_of fifo address n true false continues).answer

-- the lists of a script, and the words of the lists of operations
abbrev pub list : List ℕ → List ℕ → Commands
list words fifo = record { words = words; fifo = fifo }

abbrev pub script_words : Script → List Commands
script_words (asks os) = map held (planned fifo chunk address os)
script_words (refused r) = []

abbrev pub script_lists : List ℕ → List Commands
script_lists bytes = script_words (script_of address bytes)

abbrev pub planned_words : List Operation → List (List ℕ)
planned_words os = map (λ (l : CommandList). l.words) (planned fifo chunk address os)

abbrev pub last_byte_and_stop : Commands
last_byte_and_stop = record { words = 0x1C01 ∷ 0x1000 ∷ replicate 6 0; fifo = [] }

-- a snapshot with these bits and every other clear, but resp_rec set; no command in the slots
abbrev pub snapshot : (nack lost timeOut complete : Bool) → Snapshot
snapshot nack lost timeOut complete =
    record {
      nack = nack;
      arbitration_lost = lost;
      scl_st_to = false;
      scl_main_st_to = false;
      time_out = timeOut;
      resp_rec = true;
      trans_complete = complete;
      end_detect = false;
      commands = replicate 8 0;
      now = 0;
    }

abbrev pub nack_and_lost : Snapshot
nack_and_lost = snapshot true true false false

abbrev pub done_and_timed_out : Snapshot
done_and_timed_out = snapshot false false true true

-- SDA reads high from the third rise on, which is the fifth poll
abbrev pub third_rise : ℕ → List Sample
third_rise polls = take polls (sampled 0 (false ∷ false ∷ false ∷ false ∷ true ∷ true ∷ []))

abbrev pub starred : List Case
starred =
    -- K1: the pieces of 1, 31, 32, 33, 34 and 63
    (pieces chunk 1 is (1 ∷ []))
    ∷ (pieces chunk 31 is (31 ∷ []))
    ∷ (pieces chunk 32 is (29 ∷ 3 ∷ []))
    ∷ (pieces chunk 33 is (29 ∷ 4 ∷ []))
    ∷ (pieces chunk 34 is (31 ∷ 3 ∷ []))
    ∷ (pieces chunk 63 is (31 ∷ 29 ∷ 3 ∷ []))
    -- K2: script 01 00 07 00 01 00 A0 00 02 01; lists 3000 0902 2000, FIFO 52 A0; 3000 0901 1801 1C01 1000, FIFO 53
    ∷ (script_lists (1 ∷ 0 ∷ 7 ∷ 0 ∷ 1 ∷ 0 ∷ 0xA0 ∷ 0 ∷ 2 ∷ 1 ∷ [])
    is (list (0x3000 ∷ 0x0902 ∷ 0x2000 ∷ 0 ∷ 0 ∷ 0 ∷ 0 ∷ 0 ∷ []) (0x52 ∷ 0xA0 ∷ [])
    ∷ list (0x3000 ∷ 0x0901 ∷ 0x1801 ∷ 0x1C01 ∷ 0x1000 ∷ 0 ∷ 0 ∷ 0 ∷ []) (0x53 ∷ [])
    ∷ []))
    -- K3: write limit: 31 with start passes, 32 gives 3; without, 32 passes, 33 gives 3
    ∷ (write_answer 31 true is Ok Listed)
    ∷ (write_answer 32 true is Err FifoExceeded)
    ∷ (write_answer 32 false is Ok Listed)
    ∷ (write_answer 33 false is Err FifoExceeded)
    -- K4: read: 0 gives 2; continuing 32 passes, 33 gives 3; ending 31 passes, 32 gives 3
    ∷ (read_as 0 true is Err ZeroLengthInvalid)
    ∷ (read_as 0 false is Err ZeroLengthInvalid)
    ∷ (read_as 32 true is Ok Listed)
    ∷ (read_as 33 true is Err FifoExceeded)
    ∷ (read_as 31 false is Ok Listed)
    ∷ (read_as 32 false is Err FifoExceeded)
    ∷ (map number_of (ZeroLengthInvalid ∷ FifoExceeded ∷ []) is (2 ∷ 3 ∷ []))
    -- K5: lone empty write: 3000 0901 1000
    ∷ ((write_of fifo address [] true true).list.words is (0x3000 ∷ 0x0901 ∷ 0x1000 ∷ 0 ∷ 0 ∷ 0 ∷ 0 ∷ 0 ∷ []))
    -- K6: write of 1, empty read, write of 1: 3000 0902 2000, then 0901 1000 2000
    ∷ (planned_words (write (7 ∷ []) ∷ read 0 ∷ write (8 ∷ []) ∷ [])
    is ((0x3000 ∷ 0x0902 ∷ 0x2000 ∷ 0 ∷ 0 ∷ 0 ∷ 0 ∷ 0 ∷ []) ∷ (0x0901 ∷ 0x1000 ∷ 0x2000 ∷ 0 ∷ 0 ∷ 0 ∷ 0 ∷ 0 ∷ []) ∷ []))
    -- K7: write of 1, then empty write: second list 1000 2000
    ∷ (drop 1 (planned_words (write (7 ∷ []) ∷ write [] ∷ [])) is ((0x1000 ∷ 0x2000 ∷ 0 ∷ 0 ∷ 0 ∷ 0 ∷ 0 ∷ 0 ∷ []) ∷ []))
    -- K8: nack with arbitration lost is 9; done with time_out: the poll succeeds, the command check gives 11
    ∷ (answer_of (errors_of nack_and_lost) is answering 9 3)
    ∷ (poll_of done_and_timed_out None is Done)
    ∷ (answer_of (commands_of done_and_timed_out None) is answering 11 0)
    -- K10: SDA always low: Idle after 20 acting polls, 9 falls, 10 rises of SCL; released at the 3rd rise: 6 acting polls, 2 falls
    ∷ ((polled_with step_of (always_low 19) fresh).state is SendStop)
    ∷ ((polled_with step_of (always_low 20) fresh).state is clear.Idle)
    ∷ (falls (made_with step_of (always_low 20) fresh) is 9)
    ∷ (rises (made_with step_of (always_low 20) fresh) is 10)
    ∷ ((polled_with step_of (third_rise 5) fresh).state is SendStop)
    ∷ ((polled_with step_of (third_rise 6) fresh).state is clear.Idle)
    ∷ (falls (made_with step_of (third_rise 6) fresh) is 2)
    -- K11: 1C01 1000: stuck from Idle, passes from Reading
    ∷ (inspected fifo last_byte_and_stop (phase_number Idle) is None)
    ∷ (inspected fifo last_byte_and_stop (phase_number Reading) is Some Idle)
    ∷ []
