-- What the contracts of private functions cite, and no contract of a public call reaches: nobody has to trust it.
pub mod Edits
pub mod Outcomes
