pub mod ApartLemmas
pub mod PlainLemmas
