-- What a reader must believe of command words.
pub mod Word
