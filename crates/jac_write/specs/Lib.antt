pub mod Drafts
pub mod Regrouped
pub mod Writes
