pub mod Identifiers
pub mod Kinds
