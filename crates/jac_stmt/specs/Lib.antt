pub mod Drafts
pub mod Runs
pub mod Places
