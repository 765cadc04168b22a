pub mod MoveCounts
pub mod Places
pub mod SlotLemmas
pub mod WholeCounts
