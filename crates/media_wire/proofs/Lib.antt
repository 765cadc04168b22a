pub mod Counting
pub mod Flights
pub mod Oldest
pub mod Orders
pub mod Places
pub mod Sources
pub mod Trying
pub mod Uses
