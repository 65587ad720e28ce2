pub mod Paths
pub mod Verdicts
pub mod Primitives
pub mod Parts
pub mod Services
