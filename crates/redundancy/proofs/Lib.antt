pub mod Forces
pub mod Hears
