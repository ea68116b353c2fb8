pub mod Cuts
pub mod Colons
pub mod Empty
pub mod Equal
pub mod Shapes
pub mod Paths
pub mod Orders
pub mod KeySteps
pub mod Rows
pub mod Repeats
pub mod LabelFunctions
pub mod Shorter
pub mod TargetReadings
pub mod NamesByFirst
mod Words
