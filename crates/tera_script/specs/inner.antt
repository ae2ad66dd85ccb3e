pub mod Call
pub mod Command
pub mod Marked
pub mod Passed
