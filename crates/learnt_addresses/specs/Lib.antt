pub mod LearntAddresses
pub mod Laws
