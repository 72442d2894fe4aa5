pub mod Calls
mod SentRow
