pub mod Faults
pub mod Names
pub mod Page
pub mod Rendered
pub mod Words
