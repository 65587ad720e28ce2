pub mod Appends
pub mod Definitions
pub mod Fields
pub mod Heads
pub mod Namespaces
pub mod Sets
pub mod Words
