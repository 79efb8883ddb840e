pub mod Fits
pub mod HighFirst
