-- The lemmas of the crate.
mod Firsts
mod Lookups
mod Changes
mod Area
mod Fits
