-- What the contract of text cites.
pub mod Lines
