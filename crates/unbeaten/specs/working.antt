-- Contract records of inner functions; no statement of a call cites them.
pub mod Noting
