-- Lemmas on the calls of the block half.
pub mod Words
pub mod Lives
pub mod Giving
pub mod Endings
pub mod Reading
pub mod Passing
pub mod Making
pub mod Fixed
pub mod Streaming
pub mod Promising
