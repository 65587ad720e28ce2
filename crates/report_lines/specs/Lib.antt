pub mod Lent
pub mod LineSinks
pub mod Readings
