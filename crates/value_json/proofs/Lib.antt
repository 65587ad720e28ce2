pub mod Front
pub mod Adding
pub mod Halves
pub mod Floats
pub mod Bytes
pub mod Members
