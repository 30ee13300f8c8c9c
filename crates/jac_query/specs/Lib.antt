pub mod Choice
pub mod Crossed
pub mod Field
pub mod Live
pub mod Marked
pub mod Sorted
pub mod Sums
