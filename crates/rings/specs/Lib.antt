pub mod Circles
pub mod Law
pub mod Edits
pub mod LetIn
