pub mod Reported
pub mod Redo
pub mod JournalState
pub mod Steps
pub mod Outcomes
pub mod Initializing
pub mod Laws
