pub mod HostSeen
pub mod GoesOn
pub mod Content
pub mod Left
pub mod Telling
pub mod Standing
