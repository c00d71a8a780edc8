-- The lemmas of the crate.
pub mod Shifts
pub mod Walks
pub mod Prospects
pub mod Additions
pub mod Verdicts
pub mod Same
pub mod OnePut
