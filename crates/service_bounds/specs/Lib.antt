pub mod Counts
pub mod Flights
pub mod Changes
pub mod Asking
pub mod Held
