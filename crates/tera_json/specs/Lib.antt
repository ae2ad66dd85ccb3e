pub mod Places
pub mod Numbers
pub mod Misfits
pub mod Documents
pub mod Written
pub mod Tidied
pub mod inner
