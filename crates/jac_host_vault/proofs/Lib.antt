pub mod Attached
pub mod Found
pub mod Left
pub mod Telling
pub mod Standing
