pub mod Shapes
pub mod Viewed
