pub mod Answered
pub mod BodyLemmas
pub mod Born
pub mod Changed
pub mod Closed
pub mod Following
pub mod SentSite
