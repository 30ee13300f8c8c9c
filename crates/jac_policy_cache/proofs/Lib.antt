pub mod Linking
pub mod Recalling
pub mod Rising
pub mod Invalidating
