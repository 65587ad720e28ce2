pub mod First
pub mod Counts
