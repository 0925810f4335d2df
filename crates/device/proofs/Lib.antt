pub mod Rows
pub mod Placing
pub mod Admitted
pub mod Newest
pub mod Counts
pub mod ListLaws
pub mod CellSteps
pub mod CellLaws
