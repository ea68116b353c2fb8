pub mod FormatRun
pub mod Laws
pub mod Modes
pub mod Words
pub mod Worked
pub mod private
