mod ColumnLemmas
mod ConvertLemmas
mod CopyLemmas
mod DecidedParts
mod EqualLemmas
mod FieldLemmas
mod KeyLemmas
mod LookupLemmas
mod MapDifferenceLemmas
pub mod PartsLaws
mod PathLemmas
mod PrintLemmas
mod PrintPairs
mod SliceLemmas
