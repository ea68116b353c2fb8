pub mod Files
pub mod Steps
pub mod Moves
pub mod Deepest
pub mod Climbs
pub mod Accepts
pub mod Rises
pub mod Placed
pub mod Pushed
pub mod Blocks
pub mod Listed
mod Turned
mod Words
