pub mod Head
pub mod Codes
pub mod Rows
pub mod Roll
pub mod ReadBack
pub mod Laws
