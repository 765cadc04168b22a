pub mod Decided
pub mod Files
pub mod Hosting
pub mod Keeping
pub mod Rereading
pub mod Strangers
pub mod Usual
pub mod Vetting
