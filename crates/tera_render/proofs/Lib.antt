mod NameLemmas
mod Wants
