mod ByName
mod Extends
mod Found
mod Kept
mod LentLemmas
mod Made
mod Names
mod Rooms
mod Runs
pub mod ShownLaws
