pub mod ActLemmas
pub mod DenyLemmas
pub mod TellLemmas
