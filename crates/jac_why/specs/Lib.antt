pub mod Named
pub mod Context
pub mod Watched
pub mod Whys
