pub mod RunLaws
pub mod PlaceLaws
pub mod DraftLaws
pub mod EachLaws
pub mod Looping
pub mod WriteLaws
pub mod FormLaws
