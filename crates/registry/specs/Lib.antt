pub mod BookName
pub mod Texts
pub mod TypedNote
