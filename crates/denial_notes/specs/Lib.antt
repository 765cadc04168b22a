pub mod Denials
pub mod Looks
pub mod Notes
pub mod RuleNames
