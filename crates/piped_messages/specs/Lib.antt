pub mod Cutting
pub mod Figures
pub mod Forms
pub mod Joining
