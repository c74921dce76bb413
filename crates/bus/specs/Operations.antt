-- What is asked of the bus, in the words of UM10204: operations, which of them are kept, and the runs that like neighbours make.
use Rattle.std.specs.Prelude.{ℕ, zero, suc, ◌+◌, List, [], ◌∷◌, ◌++◌}

-- 3.1.5, 3.1.10: a write of these bytes, however many; a read of so many
pub data Operation : Type 0 where
  write : List ℕ → Operation
  read : ℕ → Operation

-- 01, "Scripts and transactions": "Empty reads are dropped before neighbours are compared; empty writes are kept."
unfoldable pub kept : List Operation → List Operation
kept [] = []
kept (write bytes ∷ os) = write bytes ∷ kept os
kept (read zero ∷ os) = kept os
kept (read (suc n) ∷ os) = read (suc n) ∷ kept os

-- 3.1.10: a transfer has one direction, and a repeated START turns it round. A run: like operations, one after another, are one
-- transfer
pub data Transfer : Type 0 where
  writes : List ℕ → Transfer
  reads : ℕ → Transfer

-- one operation more in front: it joins the first run where that is of its kind, and is a run of its own where not
unfoldable pub join : Operation → List Transfer → List Transfer
join (write bytes) [] = writes bytes ∷ []
join (write bytes) (writes more ∷ ts) = writes (bytes ++ more) ∷ ts
join (write bytes) (reads n ∷ ts) = writes bytes ∷ reads n ∷ ts
join (read n) [] = reads n ∷ []
join (read n) (writes bytes ∷ ts) = reads n ∷ writes bytes ∷ ts
join (read n) (reads more ∷ ts) = reads (n + more) ∷ ts

unfoldable pub runs : List Operation → List Transfer
runs [] = []
runs (o ∷ os) = join o (runs os)
