pub mod Extents
pub mod Buffers
pub mod Agreement
