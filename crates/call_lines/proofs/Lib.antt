pub mod VertexWords
pub mod Saying
pub mod Commas
