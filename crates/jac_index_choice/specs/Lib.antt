pub mod Predicates
pub mod Cut
pub mod Fixed
pub mod Found
