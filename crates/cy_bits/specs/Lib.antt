pub mod Put
pub mod formers
pub mod Bits
pub mod Numbers
