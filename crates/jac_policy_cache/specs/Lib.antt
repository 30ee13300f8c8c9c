pub mod Linked
pub mod Memo
pub mod ViewerCache
pub mod Affected
