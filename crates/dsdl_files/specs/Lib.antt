pub mod Order
pub mod Folders
pub mod Causes
pub mod Steps
