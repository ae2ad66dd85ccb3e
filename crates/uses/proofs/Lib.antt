mod Ample
mod Joined
mod Pages
mod Added
mod Replayed
mod PickedLemmas
mod Ruled
