pub mod Reopened
pub mod GoesOn
