mod TestsPassed
mod RecordApplied
mod UpdateMade
mod LeavesSteady
mod Formatting
