pub mod Rule
pub mod Posts
pub mod Opening
