pub mod Names
pub mod Entries
pub mod Halves
pub mod Said
pub mod Lines
pub mod Laws
