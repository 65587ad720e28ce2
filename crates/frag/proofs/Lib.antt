pub mod Sizes
pub mod Cuts
pub mod Trailers
pub mod Seen
pub mod Follows
pub mod Rows
pub mod Unbroken
