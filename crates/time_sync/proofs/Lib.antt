pub mod Least
pub mod Kept
pub mod Told
