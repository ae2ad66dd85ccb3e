pub mod Given
pub mod Apart
