pub mod Homes
pub mod Layout
pub mod Lease
pub mod Ownership
pub mod Pages
pub mod Spans
