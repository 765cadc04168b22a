pub mod ClassLemmas
pub mod IndexLemmas
pub mod LineLemmas
pub mod MomentLemmas
mod SearchLemmas
pub mod SetLemmas
