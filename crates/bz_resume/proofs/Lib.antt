pub mod Around
pub mod Checking
pub mod Entries
pub mod JournalFronts
pub mod Loops
pub mod Names
pub mod Opens
pub mod Outcomes
pub mod Outlined
pub mod PairStanding
pub mod Paths
pub mod Saves
pub mod Sized
pub mod Slots
pub mod Stands
pub mod Surviving
pub mod Touched
mod Words
