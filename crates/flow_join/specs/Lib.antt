pub mod Queues
pub mod Tags
pub mod Keys
