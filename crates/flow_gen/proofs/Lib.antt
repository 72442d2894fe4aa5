mod Numbers
mod Places
mod SummaryLemmas
mod Sums
mod Texts
pub mod Fitting
pub mod Shelves
