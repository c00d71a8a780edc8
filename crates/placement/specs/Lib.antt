-- The spec files of the crate.
pub mod Fit
