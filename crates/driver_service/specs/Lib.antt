pub mod Positions
pub mod Calls
pub mod Requests
pub mod Reasons
pub mod Gathering
pub mod Rounds
pub mod Answering
