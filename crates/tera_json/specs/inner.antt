pub mod Stopped
pub mod Lacking
