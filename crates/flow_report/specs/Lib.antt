pub mod Words
pub mod Values
pub mod EventLines
pub mod Sinks
