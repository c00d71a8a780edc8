-- Grants that are held, and services that give none.
pub mod Held
pub mod Out
