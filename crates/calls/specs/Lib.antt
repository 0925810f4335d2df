pub mod PageNumbers
pub mod Calls
pub mod Refusals
pub mod Answers
