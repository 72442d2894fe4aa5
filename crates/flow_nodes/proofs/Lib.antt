pub mod BuildLemmas
pub mod DueLemmas
pub mod ListLemmas
pub mod ReplayLemmas
pub mod RowLemmas
pub mod StepLemmas
