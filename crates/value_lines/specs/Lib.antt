pub mod LongLines
pub mod Encoded
pub mod Decoded
pub mod Digits
