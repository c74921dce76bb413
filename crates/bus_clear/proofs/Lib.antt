pub mod LawsRuns
pub mod LawsTape
pub mod LawsLaying
pub mod LawsPolled
pub mod Clearing
pub mod Stops
