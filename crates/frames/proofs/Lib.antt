pub mod Transcript
pub mod Texts
