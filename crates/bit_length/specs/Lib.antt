pub mod Ascending
pub mod Kept
pub mod Lengths
pub mod Members
pub mod Moved
pub mod Residues
pub mod Runs
