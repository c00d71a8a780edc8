-- The spec files of the crate.
pub mod Digests
pub mod Lines
