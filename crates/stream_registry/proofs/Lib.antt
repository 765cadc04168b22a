pub mod EndpointLemmas
pub mod FewLemmas
pub mod LeavingLemmas
pub mod LimitLemmas
pub mod PageLawLemmas
pub mod PageLemmas
mod ProspectLemmas
pub mod RestLemmas
pub mod SessionLemmas
pub mod SlotLemmas
