pub mod AttachLemmas
pub mod ReplayLemmas
pub mod LaterLemmas
pub mod CauseLemmas
pub mod CompleteLemmas
pub mod ServerLemmas
pub mod DemoLemmas
pub mod Leaving
