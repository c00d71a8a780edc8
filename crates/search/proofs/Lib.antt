-- The lemmas of the crate.
pub mod Order
pub mod OneList
pub mod Steps
