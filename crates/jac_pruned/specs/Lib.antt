pub mod Begun
pub mod Locally
pub mod OneSorted
pub mod Tupled
pub mod Wanted
