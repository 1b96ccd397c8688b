pub mod MetLaws
pub mod CountLaws
