-- How the cases come out of the rules.
pub mod Outcomes
pub mod Slots
pub mod Direct
pub mod Moving
pub mod Denying
pub mod Reading
pub mod OneBucket
pub mod Numbers
pub mod Lives
pub mod Service
