pub mod Map
pub mod Entries
pub mod Alike
pub mod Written
pub mod Told
