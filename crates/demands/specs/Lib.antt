-- The demands as predicates over implementations, wrong implementations, and what the starred cases say.
pub mod Inspectors
pub mod Built
pub mod Plans
pub mod Planners
pub mod Transactions
pub mod Tallies
pub mod Clears
pub mod Starred
pub mod FromC
