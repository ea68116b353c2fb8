pub mod KeyPlaces
pub mod LawDicts
pub mod LawLists
pub mod LawRenaming
pub mod ProperCommands
pub mod ProperDicts
pub mod SettingsTexts
mod Words
