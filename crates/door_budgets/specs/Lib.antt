pub mod Taking
pub mod Budgets
pub mod Laws
