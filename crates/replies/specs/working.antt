-- What the functions behind a reply leave in the buffer.
pub mod Buffer
