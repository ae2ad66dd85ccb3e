pub mod Call
pub mod Context
pub mod Known
pub mod Lent
pub mod Request
pub mod Steps
pub mod inner
