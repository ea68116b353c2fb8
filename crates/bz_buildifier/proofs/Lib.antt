pub mod FormatSteps
pub mod FormatRuns
pub mod FormatWhole
pub mod FormatAgree
mod Words
