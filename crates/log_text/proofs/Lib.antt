pub mod Each
mod Digits
mod Hex
mod Fields
mod Lines
mod Logs
pub mod Rows
