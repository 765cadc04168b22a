pub mod Pairs
pub mod Copies
pub mod Layout
pub mod Polling
