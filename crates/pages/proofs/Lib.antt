pub mod Contents
pub mod Pigeons
