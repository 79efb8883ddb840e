pub mod Closed
pub mod Segments
