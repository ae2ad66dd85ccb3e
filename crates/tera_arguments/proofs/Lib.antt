mod IntegerLemmas
pub mod ItemLaws
