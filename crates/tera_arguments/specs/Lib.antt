pub mod Taken
pub mod Named
pub mod Rendered
pub mod inner
