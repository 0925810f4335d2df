pub mod Words
pub mod Encoded
pub mod Fields
pub mod Decoded
