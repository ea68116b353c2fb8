pub mod FirstItems
pub mod Selects
pub mod HostForms
pub mod LawBack
pub mod ProperComments
mod Words
