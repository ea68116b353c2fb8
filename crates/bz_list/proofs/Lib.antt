pub mod AddedItems
pub mod EditedLists
pub mod ItemEnds
pub mod KnownSteps
pub mod LawAdded
pub mod LawRemoved
pub mod ListedForms
pub mod ProperCommands
pub mod StayedSame
mod Words
