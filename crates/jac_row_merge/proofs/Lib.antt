pub mod Joining
pub mod Placed
