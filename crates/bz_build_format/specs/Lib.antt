pub mod Meaning
pub mod Faults
pub mod Fixed
pub mod TreePrograms
pub mod Words
pub mod private
