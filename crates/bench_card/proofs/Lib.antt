-- From a player to the card.
pub mod Listing
