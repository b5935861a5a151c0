-- What the exported calls answer. The file's first line says of which call.
pub mod FormNumber
