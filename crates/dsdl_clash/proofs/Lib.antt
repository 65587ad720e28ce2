pub mod NameLemmas
pub mod ClashLemmas
pub mod OrderLemmas
