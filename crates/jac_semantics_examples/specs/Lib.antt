pub mod States
pub mod Terms
pub mod Library
pub mod Diary
pub mod Kept
