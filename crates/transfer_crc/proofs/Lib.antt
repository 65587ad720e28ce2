pub mod Rows
pub mod Own
pub mod Linear
pub mod Tables
pub mod Blocks
