pub mod Walks
pub mod Sets
pub mod Types
pub mod Passing
pub mod Behind
pub mod Fields
pub mod Variants
pub mod OneMore
