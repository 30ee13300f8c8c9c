mod WordsLemmas
pub mod CountLemmas
