pub mod Gives
pub mod Fields
pub mod Framing
pub mod Request
pub mod Answer
pub mod Pairs
