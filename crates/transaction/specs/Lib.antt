-- What a reader must believe of transactions; `Walk` is for the private functions that find a place in a script.
pub mod Deadlines
pub mod Calls
pub mod Numbers
pub mod Walk
