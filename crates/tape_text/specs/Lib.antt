-- What the contracts of the text form cite.
pub mod Numbers
pub mod Calls
pub mod Lines
pub mod Taken
pub mod Words
