pub mod Parts
pub mod Boxing
