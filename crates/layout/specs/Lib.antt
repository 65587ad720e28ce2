pub mod Bodies
pub mod Layouts
pub mod Sets
pub mod Ends
