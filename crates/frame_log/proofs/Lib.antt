pub mod LineLemmas
pub mod KeptLemmas
pub mod CutLemmas
pub mod LogLemmas
pub mod OrderLemmas
pub mod FitLemmas
pub mod UsedLemmas
pub mod LaneLemmas
pub mod PairLemmas
pub mod CleanLemmas
pub mod ReadsLemmas
pub mod MicrosLemmas
mod HexPairs
