pub mod Worked
pub mod LawsTurns
