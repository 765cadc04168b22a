mod AlikeLemmas
mod CaseLemmas
mod DirectoryLemmas
pub mod ExplainingLemmas
pub mod KeyLemmas
pub mod PatternLemmas
mod SettledLemmas
pub mod SharingLemmas
pub mod WiderLemmas
pub mod WrittenPolicyLemmas
