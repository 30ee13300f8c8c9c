pub mod EntryLemmas
pub mod EntriesLemmas
pub mod HandlingLemmas
pub mod DispatcherLaws
pub mod StartLaws
pub mod ViewerEntryLaws
