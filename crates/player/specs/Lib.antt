-- What a player promises.
pub mod Hands
pub mod Playing
pub mod Lives
pub mod Twins
pub mod Player
pub mod Notebook
