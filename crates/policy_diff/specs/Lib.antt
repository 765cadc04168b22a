pub mod Adding
pub mod Askers
pub mod Deciding
pub mod Diff
pub mod Examples
pub mod Reach
pub mod Scope
