pub mod Bytes
pub mod StatusBytes
