-- The lemmas of the crate.
pub mod Labels
pub mod Pigeonhole
pub mod Placing
