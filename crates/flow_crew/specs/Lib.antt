pub mod Bodies
pub mod Crew
