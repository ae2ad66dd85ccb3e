pub mod Pieces
pub mod Quoted
pub mod Report
pub mod SinkLaws
pub mod WriterLaws
