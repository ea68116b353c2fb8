-- What the contracts of private functions cite, and no contract of a public call reaches: nobody has to trust it.
pub mod Alone
pub mod Doing
pub mod Courses
pub mod Filling
pub mod Kept
pub mod Making
