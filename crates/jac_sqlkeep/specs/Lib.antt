pub mod Based
pub mod Form
pub mod GoesOn
pub mod Kept
pub mod Lines
pub mod Opening
pub mod Alternatives
