pub mod BlankLemmas
pub mod ItemsLemmas
pub mod RulesLemmas
