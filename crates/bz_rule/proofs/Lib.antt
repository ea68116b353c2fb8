pub mod Dotted
pub mod Entries
pub mod Forms
pub mod Named
pub mod NamedItems
pub mod NamedPlaces
pub mod Opened
pub mod ProperArguments
pub mod ProperChanges
pub mod ProperForms
pub mod ProperItems
pub mod ProperRules
pub mod ProperSequences
pub mod ProperShapes
pub mod Quoted
mod Words
