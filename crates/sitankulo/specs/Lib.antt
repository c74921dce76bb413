-- What a reader must believe of the calls for C.
pub mod Answers
pub mod Names
pub mod Lists
pub mod Snapshots
pub mod Inspecting
pub mod ClearLayout
pub mod Clears
pub mod Modelling
pub mod ClearRuns
pub mod Records
pub mod Transactions
