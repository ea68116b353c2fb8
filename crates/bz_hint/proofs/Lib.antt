pub mod Rules
pub mod Noted
mod Words
