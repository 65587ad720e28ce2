pub mod Steps
pub mod Put
pub mod Fair
pub mod Ends
pub mod Whole
