pub mod Choosing
pub mod Counting
pub mod Keying
pub mod Products
pub mod Pushing
pub mod Sorting
