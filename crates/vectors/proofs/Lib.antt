-- Why a line that says a vector is read as that vector, and a text as the vectors of its lines.
pub mod Halves
pub mod Places
