pub mod Heads
pub mod Parts
pub mod Reading
pub mod Replies
pub mod Requests
pub mod Shown
