pub mod Bytes
pub mod Characters
pub mod Classes
pub mod Lexemes
pub mod Tokens
pub mod Laws
pub mod private
