pub mod Places
pub mod Pieces
pub mod Sorted
pub mod Members
pub mod Told
pub mod AnswerFacts
