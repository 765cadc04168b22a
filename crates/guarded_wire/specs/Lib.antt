pub mod Guards
pub mod Kinds
pub mod Origins
pub mod Reads
pub mod Spending
