pub mod Form
pub mod Texts
pub mod Laws
