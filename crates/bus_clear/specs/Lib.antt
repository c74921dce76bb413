-- What a reader must believe of the bus clear: one step, a run over a tape, and what the pins do on the bus.
pub mod Pins
pub mod Clear
pub mod Runs
pub mod Wires
pub mod Clocks
