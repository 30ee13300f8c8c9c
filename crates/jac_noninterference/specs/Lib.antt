pub mod TwoRuns
pub mod OpenRuns
