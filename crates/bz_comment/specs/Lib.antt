pub mod Changes
pub mod Hosts
pub mod Laws
pub mod Words
