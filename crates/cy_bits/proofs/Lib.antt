pub mod BitFacts
pub mod BitPlaces
pub mod BitPuts
pub mod Decimals
