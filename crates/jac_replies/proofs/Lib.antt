mod Escaping
pub mod Longer
pub mod FailedLemmas
