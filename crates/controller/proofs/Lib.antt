pub mod Laws
pub mod LawsRuns
pub mod LawsTraces
pub mod LawsSpent
pub mod LawsHeard
