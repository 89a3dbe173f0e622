pub mod Layout
pub mod Home
pub mod Lawful
pub mod Verdict
pub mod Reading
pub mod Inspects
pub mod Replays
pub mod Laws
