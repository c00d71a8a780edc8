-- The spec files of the crate.
pub mod Chain
pub mod Putting
pub mod Plans
pub mod Alike
pub mod Unique
