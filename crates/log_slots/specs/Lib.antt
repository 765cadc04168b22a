pub mod Counting
pub mod Opening
pub mod Positions
pub mod Slots
