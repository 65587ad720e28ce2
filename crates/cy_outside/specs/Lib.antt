pub mod Outside
pub mod Written
pub mod Files
pub mod Causes
pub mod Calls
pub mod Memory
pub mod Absence
