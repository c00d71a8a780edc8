-- The lemmas of the crate.
pub mod Joining
pub mod Wiping
pub mod Same
