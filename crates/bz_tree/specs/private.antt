-- What the contracts of private functions cite, and no contract of a public call reaches: nobody has to trust it.
pub mod Dialects
pub mod Ranks
pub mod Rows
pub mod Words
