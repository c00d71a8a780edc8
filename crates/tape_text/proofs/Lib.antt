-- Lemmas on words, lines and texts.
pub mod Reading
pub mod Lengths
pub mod Wording
pub mod Sayings
pub mod Firsts
pub mod Adding
pub mod Taking
pub mod Once
pub mod Spelled
pub mod Barring
pub mod Laws
