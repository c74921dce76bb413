-- What a reader must believe of the controller: its rules, what a run of lists does on the bus, and what it means that a list passes.
pub mod Rules
pub mod Model
pub mod Verdicts
pub mod Places
pub mod Traces
pub mod Tracing
pub mod Names
