pub mod AtMoment
mod AtPlace
pub mod Bounds
pub mod Ever
pub mod FirstMatch
pub mod LeastBound
