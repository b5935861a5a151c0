-- Nothing here is part of what the calls promise: `working` has the contracts between functions.
pub mod working
