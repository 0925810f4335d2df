pub mod Cutting
pub mod Writing
pub mod Options
pub mod Hexes
