pub mod Narrowing
pub mod Choosing
pub mod Finding
