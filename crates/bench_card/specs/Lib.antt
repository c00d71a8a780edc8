-- What the bench's card promises.
pub mod Card
