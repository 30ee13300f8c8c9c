pub mod Masked
pub mod Settling
pub mod OwnedRows
pub mod OwnedRuns
