-- From commands to lives.
pub mod Hands
pub mod Standing
pub mod Lists
pub mod Same
pub mod Going
