pub mod Asking
pub mod Explaining
pub mod Inserting
