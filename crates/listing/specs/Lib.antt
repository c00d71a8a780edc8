-- What the contracts of the listing cite.
pub mod Lines
pub mod Plays
pub mod Playing
pub mod Text
