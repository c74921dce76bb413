-- What a reader must believe of refusals.
pub mod Numbers
pub mod Names
