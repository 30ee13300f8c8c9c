pub mod Goodness
pub mod Pushed
