pub mod LawsWalk
pub mod Refusals
pub mod Written
pub mod LawsAccepted
