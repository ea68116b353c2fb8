pub mod Held
pub mod Index
pub mod QuoteMarks
pub mod Rules
pub mod Seen
pub mod Values
pub mod Worked
pub mod private
