pub mod Parts
pub mod Words
pub mod Names
pub mod Types
pub mod Beside
