pub mod Extents
pub mod Handing
pub mod Windows
