-- What a reader must believe of outcomes: what a snapshot means, the number of each answer, and a snapshot's bits as a byte.
pub mod Outcomes
pub mod Answers
pub mod Packed
pub mod Examples
