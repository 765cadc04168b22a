pub mod Telling
pub mod Positions
pub mod Given
pub mod Watching
pub mod Denying
pub mod Acts
