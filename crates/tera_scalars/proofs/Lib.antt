mod Checked
mod PlaceLemmas
pub mod PositionLaws
mod TextLemmas
mod TurnLemmas
