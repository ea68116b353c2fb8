-- What the contracts of private functions cite, and no contract of a public call reaches: nobody has to trust it.
pub mod Settling
pub mod Shown
pub mod ShownFiles
pub mod Taking
