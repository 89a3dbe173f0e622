pub mod Homes
pub mod CommitBlock
pub mod RoundTrip
pub mod Laws
