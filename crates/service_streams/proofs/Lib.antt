pub mod ActLemmas
pub mod StreamLemmas
pub mod OrderLemmas
