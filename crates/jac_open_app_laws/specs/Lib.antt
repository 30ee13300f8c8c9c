pub mod Open
pub mod Allowed
pub mod Owned
