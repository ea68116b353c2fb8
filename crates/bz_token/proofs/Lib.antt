pub mod Fronts
pub mod Tables
pub mod Strings
pub mod Complete
pub mod Laws
pub mod Longest
pub mod Taken
pub mod Sound
pub mod Tokens
pub mod Boundaries
pub mod Rows
pub mod Characters
pub mod Pieces
pub mod Texts
pub mod Opening
pub mod Glances
mod Words
