pub mod DueSets
pub mod Rows
pub mod Stepping
