-- What a reader must believe of command lists.
pub mod Lists
pub mod Tables
