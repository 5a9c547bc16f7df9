pub mod NodeLemmas
pub mod EntryLemmas
