pub mod Endings
pub mod Place
pub mod Stated
pub mod ErrorSink
