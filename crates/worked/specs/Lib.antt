-- What the worked cases say.
pub mod Service
pub mod Cases
