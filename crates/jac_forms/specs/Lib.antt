pub mod Refusal
pub mod Places
pub mod Reads
pub mod Names
pub mod Expressions
pub mod Statements
pub mod Applications
