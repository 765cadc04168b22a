pub mod Acting
pub mod Long
pub mod Order
pub mod Streams
