pub mod Fields
pub mod Composites
pub mod Verdicts
pub mod NewerParts
