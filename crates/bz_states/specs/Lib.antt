pub mod Tokens
pub mod Symbols
pub mod States
