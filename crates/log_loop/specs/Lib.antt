pub mod Next
pub mod Voice
pub mod Met
pub mod Gone
pub mod Taken
pub mod Streamed
pub mod Listened
