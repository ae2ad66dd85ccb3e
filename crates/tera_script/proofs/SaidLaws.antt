-- What lines say, for other crates.
pub use Rattle.tera_script.proofs.Lines.{one_command, skipped_says_nothing}
