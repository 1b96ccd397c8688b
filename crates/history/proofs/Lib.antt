pub mod Turns
pub mod Frees
pub mod Histories
pub mod Each
