pub mod Gaps
pub mod Sessions
pub mod Standing
pub mod TakenUp
pub mod Untaken
