pub mod Changes
pub mod Counts
pub mod Matching
pub mod Ports
pub mod Rings
pub mod Slots
