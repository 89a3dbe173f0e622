pub mod Meaning
pub mod TestsInOrder
pub mod Words
