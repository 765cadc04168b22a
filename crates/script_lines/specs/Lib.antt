pub mod Hex
pub mod Left
pub mod Line
pub mod LineFault
pub mod Number
pub mod Pieces
pub mod Settings
pub mod Statements
