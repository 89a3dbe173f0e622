pub mod Update
pub mod Laws
