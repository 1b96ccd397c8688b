pub mod LineLaws
pub mod FoundLaws
