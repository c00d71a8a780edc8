-- The spec files of the crate.
pub mod Tables
pub mod Finding
pub mod Moving
pub mod Twins
