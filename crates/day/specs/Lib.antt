pub mod DayRun
pub mod Days
pub mod Parts
pub mod Plan
pub mod Replies
pub mod Outcome
pub mod Texts
