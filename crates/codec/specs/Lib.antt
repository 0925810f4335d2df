pub mod Frames
pub mod Decoding
pub mod Opcodes
pub mod Raw
