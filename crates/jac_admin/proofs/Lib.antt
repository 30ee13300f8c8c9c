pub mod DumpLemmas
pub mod WellLemmas
pub mod UpgradeLemmas
pub mod ExplainLemmas
