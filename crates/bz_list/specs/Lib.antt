pub mod Changes
pub mod Laws
pub mod Words
pub mod private
