-- What the contracts cite of the code's own types.
pub mod Shown
