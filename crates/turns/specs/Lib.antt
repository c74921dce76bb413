-- What a reader must believe of plans.
pub mod Steps
pub mod Plan
pub mod Turns
