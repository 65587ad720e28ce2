pub mod One
pub mod Loops
pub mod Neighbours
pub mod Pairing
pub mod Grown
pub mod Told
