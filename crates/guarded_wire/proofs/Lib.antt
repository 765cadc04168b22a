pub mod Guarding
pub mod Spending
