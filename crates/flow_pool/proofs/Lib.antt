pub mod Asking
pub mod Keeping
pub mod Lone
pub mod Opening
pub mod Places
pub mod Posts
