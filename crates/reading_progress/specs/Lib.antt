pub mod Marks
pub mod Pairs
pub mod Posts
pub mod Watches
