pub mod DecidingLemmas
mod DocumentLemmas
