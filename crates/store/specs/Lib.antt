pub mod Sizes
pub mod Sessions
