mod Cuts
mod DigitValues
pub mod FloatTexts
pub mod Quotients
