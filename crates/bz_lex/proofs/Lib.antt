pub mod Gaps
pub mod Tokens
pub mod Forms
pub mod Unique
pub mod Fronts
pub mod Characters
pub mod Lists
pub mod Lexing
pub mod Coded
pub mod Deciding
pub mod Coming
pub mod Stopping
mod Words
