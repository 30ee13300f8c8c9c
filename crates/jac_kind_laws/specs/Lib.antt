pub mod Fits
pub mod Operands
pub mod Publics
pub mod Runs
