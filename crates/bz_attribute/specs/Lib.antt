pub mod Attributes
pub mod Lists
pub mod Made
pub mod Sets
pub mod Words
