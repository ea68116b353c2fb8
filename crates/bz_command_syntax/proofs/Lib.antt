pub mod Alike
pub mod CommentWords
mod Imported
pub mod NameTests
pub mod Named
pub mod Pieces
pub mod PlainTexts
pub mod Profiles
pub mod ProperCommands
pub mod Strings
pub mod Templates
pub mod Utf8Texts
