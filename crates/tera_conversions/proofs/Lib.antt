mod EntryLemmas
pub mod GivenLaws
mod SortedLemmas
