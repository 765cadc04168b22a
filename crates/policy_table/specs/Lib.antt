pub mod Lane
pub mod Printed
pub mod Rows
pub mod Scope
pub mod Stretch
pub mod Table
