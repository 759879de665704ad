pub mod Moments
pub mod Sets
