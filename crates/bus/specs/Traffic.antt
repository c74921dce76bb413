-- The traffic of kept operations, and where a byte that is not acknowledged cuts it, after UM10204.
use Rattle.std.specs.Prelude.{ℕ, zero, suc, ◌+◌, ◌*◌, List, [], ◌∷◌, ◌++◌, map, get_or, drop}
use Rattle.bus.specs.Events.{ack, nack, Event, start_bit, stop_bit, sent, got, Direction, to_sensor, from_sensor, direction_bit}
use Rattle.bus.specs.Operations.{Operation, Transfer, writes, reads, runs}

-- 3.1.10: after a START come the seven bits of the address and the direction bit. What opens a run is this definition alone
unfoldable pub opening : ℕ → Direction → List Event
opening address d = start_bit ∷ sent (address * 2 + direction_bit d) ack ∷ []

-- 3.1.6: the sensor acknowledges each byte that it takes
unfoldable pub written : List ℕ → List Event
written bytes = map (λ (b : ℕ). sent b ack) bytes

-- 3.1.5: a sensor sends its bytes in order, as many as it is asked for. Beyond those it has SDA stays high: 255
unfoldable pub next_byte : List ℕ → ℕ
next_byte sends = get_or sends 0 255

-- 3.1.6: the controller acknowledges each byte that it takes but the last, so that the sensor releases the bus
unfoldable pub received : ℕ → List ℕ → List Event
received zero sends = []
received (suc zero) sends = got (next_byte sends) nack ∷ []
received (suc (suc n)) sends = got (next_byte sends) ack ∷ received (suc n) (drop 1 sends)

-- 3.1.10, combined format: each run is opened by a START of its own (a repeated START from the second on); one STOP ends all
unfoldable pub transferred : ℕ → List ℕ → List Transfer → List Event
transferred address sends [] = stop_bit ∷ []
transferred address sends (writes bytes ∷ ts) =
    opening address to_sensor ++ (written bytes ++ transferred address sends ts)
transferred address sends (reads n ∷ ts) =
    opening address from_sensor ++ (received n sends ++ transferred address (drop n sends) ts)

-- 3.1.4: the bus stays free where there is nothing to transfer
unfoldable pub on_bus : ℕ → List ℕ → List Transfer → List Event
on_bus address sends [] = []
on_bus address sends (t ∷ ts) = transferred address sends (t ∷ ts)

-- THE TRAFFIC of kept operations at an address, against what the sensor sends, when every written byte is acknowledged
unfoldable pub traffic : ℕ → List ℕ → List Operation → List Event
traffic address sends os = on_bus address sends (runs os)

-- 3.1.6: a written byte that is not acknowledged is the last. `cut k`: right after the k-th written byte, counted from 1 and
-- address bytes included, whose acknowledge bit then reads NACK; whole where k is 0 (the sensor refuses none) or beyond them
unfoldable pub cut : ℕ → List Event → List Event
cut k [] = []
cut k (start_bit ∷ es) = start_bit ∷ cut k es
cut k (stop_bit ∷ es) = stop_bit ∷ cut k es
cut k (got b a ∷ es) = got b a ∷ cut k es
cut zero (sent b a ∷ es) = sent b a ∷ cut zero es
cut (suc zero) (sent b a ∷ es) = sent b nack ∷ []
cut (suc (suc k)) (sent b a ∷ es) = sent b a ∷ cut (suc k) es
