pub mod Filled
pub mod Steady
