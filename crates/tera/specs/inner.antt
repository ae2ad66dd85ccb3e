pub mod EscapingSink
