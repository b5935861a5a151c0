-- What the functions over a span hand back; no statement of a call cites it.
pub mod working
