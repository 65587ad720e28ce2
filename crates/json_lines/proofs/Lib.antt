pub mod Lines
pub mod Types
pub mod Fields
pub mod Rows
pub mod Bytes
