pub mod Table
pub mod Places
pub mod Texts
pub mod Refused
pub mod Laws
