pub mod Text
pub mod Said
pub mod Typed
pub mod Writer
