pub mod Document
pub mod Fault
pub mod Fields
pub mod Members
pub mod Names
pub mod Version
