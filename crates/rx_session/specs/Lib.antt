pub mod Extents
pub mod Session
pub mod Seen
pub mod Laws
