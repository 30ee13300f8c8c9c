pub mod Leafed
pub mod Searched
pub mod Seen
pub mod Tupled
