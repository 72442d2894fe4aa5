pub mod Faultless
pub mod WordLemmas
pub mod Built
pub mod PlainLemmas
mod GenLemmas
mod CheckLemmas
mod MeaningLemmas
mod RunWordLemmas
mod ThreadLemmas
