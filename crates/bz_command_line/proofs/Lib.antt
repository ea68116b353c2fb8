pub mod Counts
pub mod InTurn
pub mod Lines
pub mod OtherFaults
pub mod PathTexts
pub mod Texts
mod Words
