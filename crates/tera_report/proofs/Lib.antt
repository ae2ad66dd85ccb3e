mod EqualReports
pub mod EscapeLaws
mod LaneLemmas
pub mod PartLaws
mod PlainLanes
pub mod PutLaws
pub mod QuoteLaws
mod QuoteLemmas
mod ReportLemmas
pub mod SentLaws
pub mod TellLaws
mod UnquoteLemmas
mod WatchLemmas
mod WriterLemmas
