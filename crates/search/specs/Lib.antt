-- The spec files of the crate.
pub mod Reached
pub mod Unique
