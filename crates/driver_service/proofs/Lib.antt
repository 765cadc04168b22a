pub mod CallLemmas
pub mod GatherLemmas
pub mod RoundLemmas
