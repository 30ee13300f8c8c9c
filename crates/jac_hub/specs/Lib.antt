pub mod Hearing
pub mod Heard
pub mod Refusals
pub mod Channel
pub mod Hub
pub mod Served
pub mod Alike
