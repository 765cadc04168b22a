pub mod CopyLemmas
pub mod Pairing
pub mod Polls
