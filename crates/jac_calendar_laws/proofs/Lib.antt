pub mod AskingLemmas
pub mod ReadTexts
pub mod CalendarOpens
