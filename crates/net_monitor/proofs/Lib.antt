pub mod Gathered
pub mod Kept
pub mod Told
pub mod Leaving
pub mod Renewed
pub mod Tells
