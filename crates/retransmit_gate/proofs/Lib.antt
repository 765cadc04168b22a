pub mod GateLemmas
pub mod ResendLemmas
pub mod NakLemmas
pub mod NakStands
