pub mod Alike
pub mod Joining
pub mod Labels
pub mod OnePair
pub mod Ordering
