pub mod Slips
pub mod Stages
pub mod MonitorState
pub mod Asking
pub mod Calls
pub mod Starting
