pub mod Lossy
pub mod Positions
pub mod Ends
pub mod Index
