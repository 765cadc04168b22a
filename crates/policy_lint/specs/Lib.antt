pub mod Ending
pub mod Held
pub mod Hiding
pub mod Lasting
pub mod Nobody
pub mod Report
