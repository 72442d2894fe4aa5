pub mod Generated
pub mod Texts
pub mod Sums
