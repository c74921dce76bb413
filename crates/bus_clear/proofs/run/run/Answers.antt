-- `bus_clear::run::run` meets its contract: the polls are counted, the room is looked at, and then the changes are laid.
use Prim.Native.Nat.{◌+◌, ◌≤◌}
use mathlib.Core.Path.{◌≡◌, sym, ap, ◌∙◌}
use lib.ListN.{length}
use lib.Seq.{length-sets}
use native.Mathlib.Omega.{arith}
use Rattle.bus_clear.specs.declared.Pins.{Pins}
use Rattle.bus_clear.specs.declared.run.Polls.{Polls}
use Rattle.bus_clear.specs.Pins.{changes_of}
use Rattle.bus_clear.specs.Runs.{tape_of, polled_over, made_in, releases}
use Rattle.bus_clear.proofs.LawsRuns.{few_bytes, length-bytes}
use Rattle.bus_clear.proofs.LawsPolled.{tape_within, polls_within, polled_few, polled_made, reported, released_last}
use Rattle.bus_clear.proofs.run.run.Goals.{After-poll_tape-p, After-bytes}
use Rattle.bus_clear.proofs.run.run.Goals as goal

within :
    (c : After-poll_tape-p)
    → let tape = c.args.tape in
    (c.poll_tape-p.result.polls ≤ length tape.clocks.now) × (c.poll_tape-p.result.polls ≤ length tape.levels.now)
within c =
    let a = c.args in
    omega (
      arith,
      ap (λ (q : Polls). q.polls) c.poll_tape-p.ensures,
      tape_within a.tape.clocks.now a.tape.levels.now,
      polls_within a.t a.t.budget (tape_of a.tape.clocks.now a.tape.levels.now) a.c,
    )

made :
    (c : After-poll_tape-p)
    → let a = c.args in
    made_in a.t.pins c.poll_tape-p.result.polls (tape_of a.tape.clocks.now a.tape.levels.now) a.c
    ≡ (polled_over a.t a.tape.clocks.now a.tape.levels.now a.c).changes
made c =
    let a = c.args in
    rw (ap (λ (q : Polls). q.polls) c.poll_tape-p.ensures)
    (sym (polled_made a.t a.t.budget (tape_of a.tape.clocks.now a.tape.levels.now) a.c))

counted :
    (c : After-poll_tape-p)
    → let a = c.args in
    c.poll_tape-p.result.changes ≡ length (polled_over a.t a.tape.clocks.now a.tape.levels.now a.c).changes
counted c = ap (λ (q : Polls). q.changes) c.poll_tape-p.ensures

release :
    (c : After-bytes)
    → let released = length (releases c.args.t.pins) in
    (length c.bytes.result.now ≡ released) × (length (changes_of c.with_pins-release.result) ≡ released)
release c =
    let e = ap (λ (x : Pins). length (changes_of x)) c.with_pins-release.ensures in
    (ap length c.bytes.ensures ∙ length-bytes c.with_pins-release.result ∙ e, e)

pub overflow_add-p : goal.overflow_add-p
overflow_add-p c =
    let a = c.args in
    let p = (goal.at.overflow_add-p c).After-poll_tape-p in
    omega (
      arith,
      counted p,
      within p,
      ap (λ (q : Polls). q.polls) c.poll_tape-p.ensures,
      polled_few a.t a.t.budget (tape_of a.tape.clocks.now a.tape.levels.now) a.c,
      ap length c.bytes.ensures,
      few_bytes c.with_pins-release.result,
    )

pub lay_all-at-requires : goal.lay_all-at-requires
lay_all-at-requires c =
    let p = (goal.at.lay_all-at-requires c).After-poll_tape-p in
    record { polls_in_bounds = within p; c_in_bounds = omega (arith, counted p, ap length (made p)) }

pub lay-changes-requires : goal.lay-changes-requires
lay-changes-requires c =
    let p = (goal.at.lay-changes-requires c).After-poll_tape-p in
    let w = (goal.at.lay-changes-requires c).After-bytes in
    let laid = c.lay_all-at.ensures in
    omega (arith, laid.0, simp length-sets at (ap length laid.1), counted p, ap length (made p), release w)

pub returns : goal.returns
returns c =
    let a = c.args in
    let p = (goal.at.returns c).After-poll_tape-p in
    let w = (goal.at.returns c).After-bytes in
    let front = c.lay_all-at.ensures in
    let whole = c.lay-changes.ensures in
    let run = polled_over a.t a.tape.clocks.now a.tape.levels.now a.c in
    let fits : length run.changes + length (releases a.t.pins) ≤ length a.memory.now = omega (arith, counted p, release w) in
    record {
      value =
          reported a.t a.tape.clocks.now a.tape.levels.now a.memory.now a.c fits c.poll_tape-p.result _ _ c.poll_tape-p.ensures
          (omega (arith, whole.0, front.0, ap length (made p), release w)) c.asks_reset.ensures;
      memory_after =
          released_last a.t a.tape.clocks.now a.tape.levels.now a.memory.now a.c fits _ _ c.with_pins-release.result
          (front.1 ∙ rw (made p)) c.with_pins-release.ensures (whole.1 ∙ rw (front.0, ap length (made p)));
    }
