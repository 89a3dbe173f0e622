pub mod Numbers
pub mod RoundTrips
pub mod Laws
