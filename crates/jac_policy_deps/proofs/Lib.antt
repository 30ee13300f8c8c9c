pub mod Clearing
pub mod Replaced
pub mod Sparing
pub mod Gathering
pub mod Marked
