pub mod Answers
pub mod Arrays
pub mod Elements
pub mod Parts
