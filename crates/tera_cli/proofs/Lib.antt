mod NameLemmas
mod OrderLemmas
mod SavedLemmas
mod ConversationLemmas
mod TurnLemmas
