pub mod Loops
pub mod Lookup
pub mod Mirror
pub mod Syntax
pub mod Turned
pub mod Written
pub mod Untemplated
