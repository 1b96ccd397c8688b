pub mod Nesting
pub mod Sheeting
pub mod Asking
