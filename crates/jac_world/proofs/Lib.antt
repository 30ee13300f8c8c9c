pub mod Alike
pub mod Bisected
pub mod Contradict
pub mod Cutting
pub mod Inserting
pub mod Merging
