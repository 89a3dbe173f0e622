pub mod Events
pub mod Tally
pub mod Law
