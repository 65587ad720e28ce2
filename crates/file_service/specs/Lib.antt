pub mod Paths
pub mod Names
pub mod Standing
pub mod Replies
pub mod Causes
pub mod Laws
