pub mod BesideLemmas
pub mod NumberLemmas
pub mod PartLemmas
pub mod TypeLemmas
