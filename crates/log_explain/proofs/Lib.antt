pub mod Sessions
pub mod Ports
pub mod Tables
pub mod Deliveries
pub mod Discards
pub mod Unheard
pub mod Texts
mod Blocks
mod Counted
pub mod Loops
pub mod Lasts
pub mod Slots
pub mod Said
pub mod Reported
pub mod Nodes
mod Frames
mod Heard
pub mod AsRun
pub mod Runs
