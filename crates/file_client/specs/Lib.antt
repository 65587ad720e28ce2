pub mod Fetch
pub mod Stands
pub mod Laws
