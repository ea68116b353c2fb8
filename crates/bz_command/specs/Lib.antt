pub mod Effect
pub mod Known
pub mod Laws
pub mod Prints
pub mod Table
pub mod Words
pub mod Worked
pub mod private
