pub mod Headline
pub mod Companions
pub mod Replies
