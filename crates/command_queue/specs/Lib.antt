pub mod Facts
pub mod Known
pub mod Letters
pub mod Sent
pub mod Taken
pub mod Views
