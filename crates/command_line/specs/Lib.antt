pub mod Needs
pub mod Tasks
