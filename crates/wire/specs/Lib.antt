-- What a reader must believe of numbers in byte slices.
pub mod Numbers
