pub mod Held
pub mod Replay
pub mod Check
pub mod Server
pub mod Demo
pub mod Run
