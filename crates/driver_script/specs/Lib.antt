pub mod Answers
pub mod Ends
pub mod Fault
pub mod Output
pub mod Script
pub mod Turns
