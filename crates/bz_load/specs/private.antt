-- What the contracts of private functions cite, and no contract of a public call reaches: nobody has to trust it.
pub mod Imports
pub mod Known
pub mod Replacing
pub mod Windows
