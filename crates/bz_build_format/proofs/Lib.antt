pub mod Writes
pub mod Formatting
pub mod ReadFaults
pub mod SeenPrograms
pub mod ShapeWalks
pub mod TreeWords
pub mod Chunking
pub mod Nodes
pub mod Lines
pub mod Windowed
mod Words
