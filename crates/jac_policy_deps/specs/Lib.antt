pub mod Dependencies
pub mod Cleared
pub mod Altered
pub mod Marks
