pub mod Class
pub mod Decider
pub mod Group
pub mod Index
pub mod Line
pub mod Numbered
pub mod RuleSet
pub mod Search
