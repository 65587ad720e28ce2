pub mod Variants
pub mod Within
pub mod RegisterMap
pub mod Kept
pub mod Laws
