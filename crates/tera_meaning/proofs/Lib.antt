mod AlikeLemmas
mod Among
mod ApartLemmas
mod CalculatedLemmas
pub mod ChainedLaws
mod ContainsLemmas
pub mod DecidedLaws
pub mod DifferenceLaws
mod DivisionLemmas
pub mod EntryLaws
pub mod EqualLaws
pub mod ExtendLaws
pub mod FieldLaws
pub mod KeyLaws
mod LaidOutLemmas
pub mod LookupLaws
pub mod MeaningLaws
mod MeantLemmas
pub mod OrderLaws
mod Owed
pub mod PairLaws
mod PathLemmas
pub mod PowerLaws
mod PrintedLemmas
pub mod PutLaws
pub mod QuotedLaws
mod ReadLemmas
pub mod RefusalLaws
pub mod RunLaws
mod RunLemmas
pub mod SliceLaws
mod SortedLemmas
mod SoundLemmas
pub mod StateLaws
pub mod StepLaws
mod StretchLemmas
pub mod TreeLaws
pub mod UniqueLaws
mod Utf8Lemmas
mod WellMadeLemmas
mod found
