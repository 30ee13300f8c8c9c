pub mod Ascii
pub mod Parsed
pub mod WideIds
