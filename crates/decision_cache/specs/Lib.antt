pub mod Entries
