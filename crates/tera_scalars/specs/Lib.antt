pub mod Whole
pub mod Positions
pub mod Number
pub mod Operation
pub mod inner
