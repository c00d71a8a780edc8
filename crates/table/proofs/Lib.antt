-- The lemmas of the crate.
pub mod Masks
pub mod Both
pub mod Writes
pub mod Looking
pub mod Rule
pub mod Leaving
pub mod Coming
pub mod Relocating
pub mod Alike
pub mod Marks
pub mod Answering
