pub mod Bound
pub mod NameAt
pub mod PathNames
pub mod Walked
pub mod WellKinds
pub mod Well
pub mod WellRuns
