pub mod Answers
pub mod Asked
pub mod Fault
pub mod Json
pub mod Tables
