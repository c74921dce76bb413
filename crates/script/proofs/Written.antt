-- Reading a script that was written from operations gives them back, for every list of operations within the limits.
-- Assumes nothing.
use Prim.Native.Nat.{ℕ, ◌/◌, ◌%◌, ◌≤◌, ◌<◌}
use native.Mathlib.Omega.{arith}
use mathlib.Core.Path.{◌≡◌, refl, ◌∙◌}
use mathlib.Core.List.{List, [], ◌∷◌, ◌++◌}
use mathlib.Core.Option.{some}
use lib.ListN.{length, length-append}
use lib.Seq.{take-append_seam, drop-append_seam}
use borrow.Author.Tests.{le-ltb}
use Rattle.bus.specs.Operations.{Operation, write, read}
use Rattle.script.specs.Records.{big_endian, operations_from, records_of}
use Rattle.script.specs.Scripts.{asks, read_total, most, body_of, field_of, script_of}
use Rattle.script.specs.Written.{body, script_for}
use Rattle.script.proofs.LawsWalk.{due_there}
use Rattle.script.proofs.Refusals.{judged_by_body}

two_bytes : (n : ℕ) → big_endian (n / 256) (n % 256) ≡ n
two_bytes n = omega arith

records_written : (os : List Operation) → records_of (body os) ≡ some os
unfolding operations_from body
records_written [] = refl
records_written (write bytes ∷ os) =
    rw (
      two_bytes (length bytes),
      due_there (length bytes) (bytes ++ body os) (rw length-append (omega arith)),
      take-append_seam bytes (body os),
      drop-append_seam bytes (body os),
      records_written os,
    )
records_written (read n ∷ os) = rw (two_bytes n, records_written os)

module _ (address : ℕ) (os : List Operation) where
  pub read_written : address ≤ 127 → length (body os) ≤ most → read_total os ≤ most → script_of address (script_for os) ≡ asks os
  unfolding script_for body_of
  read_written known short few =
      let field : field_of (script_for os) ≡ length (body os) = two_bytes (length (body os)) in
      judged_by_body address (script_for os) known (omega arith) refl (rw field short) (rw field (omega arith))
      ∙ rw (records_written os, le-ltb most (read_total os) few)

-- all are bytes
abbrev pub Bytes : List ℕ → Type 0
Bytes [] = Unit {0}
Bytes (b ∷ l) = (b < 256) × Bytes l

-- all that operations write are bytes
abbrev pub Sends : List Operation → Type 0
Sends [] = Unit {0}
Sends (write bytes ∷ os) = Bytes bytes × Sends os
Sends (read n ∷ os) = Sends os

joined : (a b : List ℕ) → Bytes a → Bytes b → Bytes (a ++ b)
joined [] b h k = k
joined (x ∷ a) b h k = (h.0, joined a b h.1 k)

two_are : (n : ℕ) → n ≤ most → (n / 256 < 256) × (n % 256 < 256)
two_are n h = (omega arith, omega arith)

body_bytes : (os : List Operation) → Sends os → length (body os) ≤ most → read_total os ≤ most → Bytes (body os)
unfolding body read_total
body_bytes [] h short few = tt
body_bytes (write bytes ∷ os) h short few =
    let whole = length-append bytes (body os) in
    let two = two_are (length bytes) (omega (arith, whole)) in
    (two.0, (two.1, (omega arith, joined bytes (body os) h.0 (body_bytes os h.1 (omega (arith, whole)) few))))
body_bytes (read n ∷ os) h short few =
    let two = two_are n (omega arith) in
    (two.0, (two.1, (omega arith, body_bytes os h (omega arith) (omega arith))))

pub written_bytes :
    (os : List Operation) → Sends os → length (body os) ≤ most → read_total os ≤ most → Bytes (script_for os)
unfolding script_for
written_bytes os h short few =
    let two = two_are (length (body os)) short in
    (omega arith, (two.0, (two.1, body_bytes os h short few)))
