pub mod CommandRows
pub mod LawComments
pub mod LinesMatter
pub mod MeantPlaces
pub mod NameHashes
pub mod Pieces
pub mod ProperEffects
pub mod RunningItems
pub mod StatementRules
pub mod TargetMarks
mod Words
