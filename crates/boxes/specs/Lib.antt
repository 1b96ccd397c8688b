pub mod Doubles
pub mod Fairs
pub mod Boxes
