pub mod Force
pub mod Hear
pub mod Laws
