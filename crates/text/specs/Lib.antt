-- Text as it is read and printed (SCOPE 6.2, 6.3): decimal numbers, spaces, lines. Read in this order.
pub mod Numbers
pub mod Lines
pub mod Queries
pub mod working
