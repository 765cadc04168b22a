pub mod Gate
pub mod Moment
pub mod Nakker
pub mod ResendLaws
pub mod NakLaws
