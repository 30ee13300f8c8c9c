pub mod PlaceLaws
mod WellServed
mod SchemaKinds
pub mod OpeningLemmas
