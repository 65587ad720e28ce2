pub mod AtOnce
pub mod Heard
pub mod HexLanes
pub mod HexLine
pub mod OneAnswer
pub mod OnePass
pub mod Sizes
