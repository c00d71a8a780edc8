-- What the contracts of the service cite.
pub mod Turns
pub mod Pool
pub mod Stores
pub mod Service
pub mod Promised
pub mod Making
