pub mod Destinations
pub mod Laws
