pub mod Escaping
pub mod FallibleText
pub mod FallibleTextLaws
