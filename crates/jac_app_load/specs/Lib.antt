pub mod Served
pub mod Application
pub mod Refusal
