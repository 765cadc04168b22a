pub mod Clients
pub mod Laws
pub mod Place
