pub mod Hints
pub mod Names
pub mod Refusing
pub mod private
