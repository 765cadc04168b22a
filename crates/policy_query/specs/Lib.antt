pub mod Deciding
pub mod Document
