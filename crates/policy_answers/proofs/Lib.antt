pub mod CaseLemmas
pub mod LintLemmas
pub mod TableLemmas
