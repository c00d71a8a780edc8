-- What the ring's contracts cite.
pub mod Queue
