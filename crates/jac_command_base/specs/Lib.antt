pub mod Status
pub mod ExitReason
pub mod Files
pub mod Attached
pub mod Early
pub mod Startup
