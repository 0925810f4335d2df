pub mod Lines
pub mod Reading
pub mod Optional
pub mod Hex
pub mod Room
