pub mod Start
pub mod Refused
pub mod Promise
