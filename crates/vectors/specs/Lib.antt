-- What the contracts of the vectors cite.
pub mod Agreement
pub mod Reading
