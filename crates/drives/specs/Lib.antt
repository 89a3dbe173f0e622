pub mod Disk
pub mod Calls
