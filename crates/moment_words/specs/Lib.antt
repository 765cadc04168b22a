pub mod Date
pub mod Moment
pub mod Period
