pub mod ReplayLaws
mod InputLemmas
mod OneLineLemmas
mod ReadLemmas
mod ReplyLemmas
mod SavedLemmas
mod StretchLemmas
