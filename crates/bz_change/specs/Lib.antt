pub mod Changes
pub mod Dicts
pub mod Laws
pub mod Words
pub mod private
