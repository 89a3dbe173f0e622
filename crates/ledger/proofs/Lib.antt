pub mod TwoDigits
pub mod ZeroBits
