pub mod Clashes
pub mod Names
pub mod Kinds
