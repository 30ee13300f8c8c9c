pub mod Filling
pub mod Passing
pub mod Rising
pub mod Shown
pub mod Trying
pub mod Viewed
