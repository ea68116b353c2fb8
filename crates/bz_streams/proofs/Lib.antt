pub mod Written
pub mod Outputs
pub mod Lines
pub mod Least
pub mod ControlSteps
pub mod BeginningSteps
pub mod BracketSteps
pub mod Escapes
mod Imported
pub mod OddNames
