mod EscapeLemmas
mod LineLemmas
mod MeasureLemmas
mod NameLemmas
mod SaveLemmas
mod SessionSteps
mod StateLemmas
mod TextLemmas
