pub mod Replayed
pub mod Doors
pub mod Audited
