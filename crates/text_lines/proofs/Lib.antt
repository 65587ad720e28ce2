pub mod TypedText
pub mod TxLine
