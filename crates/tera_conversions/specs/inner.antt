pub mod Apart
pub mod Forms
