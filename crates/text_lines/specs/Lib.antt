pub mod Seconds
pub mod Text
pub mod Words
pub mod Writer
