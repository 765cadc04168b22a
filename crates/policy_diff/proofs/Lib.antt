pub mod ActLemmas
pub mod AddingLemmas
pub mod DiffLemmas
pub mod NamedLemmas
pub mod PlaceLemmas
pub mod ReachLemmas
pub mod ScopeLemmas
pub mod StreamLemmas
