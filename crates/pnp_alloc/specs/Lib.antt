pub mod Allocation
pub mod Used
pub mod Stands
pub mod Laws
