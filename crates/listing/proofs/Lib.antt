pub mod Putting
pub mod Walked
pub mod RingLines
pub mod Sizes
pub mod Fitting
pub mod Listing
