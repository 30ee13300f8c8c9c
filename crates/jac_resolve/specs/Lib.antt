pub mod Collected
pub mod Live
pub mod RightMemo
pub mod Room
pub mod Rounds
pub mod ValidCache
