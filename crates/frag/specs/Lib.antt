pub mod Cut
pub mod Raw
pub mod Sent
pub mod Wire
pub mod Unbroken
