pub mod Pairs
pub mod Times
pub mod Stands
pub mod Laws
