pub mod Depth
pub mod Held
pub mod Key
pub mod Map
pub mod MapDifference
pub mod Size
pub mod Stage
