pub mod DecidedLemmas
pub mod GateLemmas
pub mod HearingLemmas
pub mod LieLemmas
pub mod MoveLemmas
pub mod ReaderLemmas
pub mod ResultLemmas
pub mod SendLemmas
