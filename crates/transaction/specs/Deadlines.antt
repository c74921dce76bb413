-- When lists are due, after 01, "Scripts and transactions": "Times are 64-bit microseconds. Deadline: none; fixed, from the clock at
-- acceptance; or per byte".
use Rattle.refusal.specs.declared.Refusal.TheVariants.{ClockRange}
use Rattle.refusal.specs.declared.Refusal.{Refusal}
use Rattle.std.specs.Prelude.{ℕ, ◌+◌, ◌*◌, cond, ltb, Option, Some, None, Result, Ok, Err}
use Rattle.transaction.specs.declared.Deadline.{Deadline}
use Rattle.transaction.specs.declared.Deadline.TheVariants as deadline

-- "13 ClockRange: a time sum exceeds 64 bits"
unfoldable pub time_of : ℕ → Result (Option ℕ) Refusal
time_of sum = cond (ltb 0xFFFFFFFFFFFFFFFF sum) (Err ClockRange) (Ok (Some sum))

-- what is settled at acceptance
abbrev pub fixed_of : Deadline → ℕ → Result (Option ℕ) Refusal
fixed_of deadline.None time = Ok None
fixed_of (deadline.Fixed duration) time = time_of (time + duration)
fixed_of (deadline.PerByte duration) time = Ok None

-- "per byte, now plus the duration times (piece length + 1), even where no address is sent"
abbrev pub due_of : Deadline → Option ℕ → ℕ → ℕ → Result (Option ℕ) Refusal
due_of deadline.None fixed n time = Ok None
due_of (deadline.Fixed duration) fixed n time = Ok fixed
due_of (deadline.PerByte duration) fixed n time = time_of (time + duration * (n + 1))
