pub mod Finding
pub mod Numbering
pub mod Prospects
pub mod Readers
pub mod Reloading
pub mod Turnover
pub mod Unread
