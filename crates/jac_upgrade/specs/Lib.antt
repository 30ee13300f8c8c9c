pub mod Alike
pub mod Extends
pub mod Upgraded
pub mod Changed
pub mod Steps
