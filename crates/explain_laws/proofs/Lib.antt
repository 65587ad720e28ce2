pub mod Words
pub mod Text
pub mod Ranges
pub mod Logs
pub mod Written
pub mod Examples
