pub mod Bytes
pub mod Schedule
pub mod TrialState
pub mod Laws
