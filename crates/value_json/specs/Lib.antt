pub mod Floats
pub mod Pieces
pub mod Words
pub mod Json
