pub mod ArgumentForms
pub mod ArgumentPlaces
pub mod AttributesAgain
pub mod FormsAgain
pub mod Grown
pub mod GrownArguments
pub mod KeySets
pub mod ListsChanged
pub mod ListsThere
pub mod MakingForms
pub mod MakingPieces
pub mod PlainWords
pub mod ProperAttributes
pub mod ProperMade
pub mod ProperTexts
mod Words
