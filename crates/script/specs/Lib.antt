-- What a reader must believe of scripts.
pub mod Records
pub mod Scripts
pub mod Written
