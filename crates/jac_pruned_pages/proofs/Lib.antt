pub mod Buffering
pub mod Places
pub mod Running
