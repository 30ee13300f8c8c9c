pub mod Escapes
pub mod Failed
pub mod Refused
pub mod Spelled
