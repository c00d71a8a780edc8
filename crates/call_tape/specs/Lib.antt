-- What the contracts of the tape cite.
pub mod Calls
pub mod Faults
pub mod Fields
pub mod Laws
pub mod Soundness
pub mod Tapes
pub mod Writing
pub mod Written
